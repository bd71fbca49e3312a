-- The table that compares the branches of a study.
use Rattle.std.specs.Prelude.{ℕ, List, [], ◌∷◌, ◌++◌, Option, None, Some, map, codes, decimal}
use Rattle.std.specs.List.{flat_map}
use Rattle.std.specs.Fmt.{signed_decimal}
use Rattle.csv.specs.Writing.{row_text, default_writer}
use Rattle.market_types.specs.declared.entry.End.{End}
use Rattle.market_types.specs.declared.entry.End.TheVariants.{Quiet, Closed, EventLimit, QueueFull}
use Rattle.study_report.specs.declared.row.TableRow.{TableRow}

-- the heads of the columns that each table has
abbrev pub columns : List (List ℕ)
columns = codes "branch" ∷ codes "parent" ∷ codes "stop" ∷ codes "events" ∷ codes "end" ∷ codes "first_difference" ∷ []

-- the first line: those heads, and then the names of the probes
abbrev pub header_of : List (List ℕ) → List (List ℕ)
header_of names = columns ++ names

-- the root has no parent
abbrev pub parent_text : Option (List ℕ) → List ℕ
parent_text None = []
parent_text (Some name) = name

abbrev pub end_text : End → List ℕ
end_text Quiet = codes "Quiet"
end_text Closed = codes "Closed"
end_text EventLimit = codes "EventLimit"
end_text QueueFull = codes "QueueFull"

-- what a row says of its branch before the numbers of the probes
abbrev pub branch_fields : TableRow → List (List ℕ)
branch_fields r =
    r.name ∷ parent_text r.parent ∷ decimal r.stop ∷ decimal r.events ∷ end_text r.end ∷ decimal r.difference ∷ []

-- the fields of a row, the numbers of the probes in decimal
abbrev pub row_fields : TableRow → List (List ℕ)
row_fields r = branch_fields r ++ map signed_decimal r.values

-- a line of comma-separated values
abbrev pub line_of : List (List ℕ) → List ℕ
line_of fields = row_text default_writer fields

-- the table of these rows for probes of these names
abbrev pub table_of : List TableRow → List (List ℕ) → List ℕ
table_of rows names = line_of (header_of names) ++ flat_map (λ r. line_of (row_fields r)) rows
