-- What the records of a series file come to: the rows of each stock, or the number of the first record that is refused.
use Rattle.std.specs.Prelude.{ℕ, ◌+◌, ◌-◌, ◌==◌, nat_lt, nat_le, Bool, true, List, [], ◌∷◌, ◌++◌, Option, None, Some, Result, Ok, Err, if◌then◌else◌, length, replicate, slice_get, slice_index_or, slice_set}
use Rattle.toml.specs.Data.{Data}
use Rattle.fundamental_series.specs.declared.rule.SeriesRow.{SeriesRow}
use Rattle.study_market.specs.declared.row.FileRow.{FileRow}
use Rattle.study_market.specs.Records.{is_header, row_in, records_of}

-- the last row
abbrev pub last_row : List SeriesRow → Option SeriesRow
last_row rows = slice_get rows (length rows - 1)

-- the row is later than the last row
abbrev pub is_later : List SeriesRow → SeriesRow → Bool
is_later rows row = elim (last_row rows) [ None ↦ true | Some before ↦ nat_lt before.time row.time ]

-- the rows of a stock
abbrev pub rows_of : List (List SeriesRow) → ℕ → List SeriesRow
rows_of tables stock = slice_index_or tables stock []

-- with one more row of a stock, which has to be later than its rows
abbrev pub with_row : List (List SeriesRow) → FileRow → Option (List (List SeriesRow))
with_row tables r =
    if is_later (rows_of tables r.stock) r.row
    then Some (slice_set tables r.stock (rows_of tables r.stock ++ r.row ∷ []))
    else None

-- with the row that a record says
abbrev pub with_record : List Data → List (List SeriesRow) → List (List ℕ) → Option (List (List SeriesRow))
with_record stocks tables fields = elim (row_in stocks fields) [ None ↦ None | Some row ↦ with_row tables row ]

-- The record of this number comes to the rows of each stock: record 0 is the header, and at most 1,000,000 follow.
abbrev pub after_record : List Data → ℕ → List (List SeriesRow) → List (List ℕ) → Option (List (List SeriesRow))
after_record stocks number tables fields =
    if number == 0 then (if is_header fields then Some tables else None)
    else if nat_le number 1000000 then with_record stocks tables fields
    else None

-- what the file comes to where it ends before the record of this number: it has at least one record
abbrev pub at_end : ℕ → List (List SeriesRow) → Result (List (List SeriesRow)) ℕ
at_end number tables = if number == 0 then Err 0 else Ok tables

-- the records from this number on
abbrev pub rows_from : List Data → ℕ → List (List SeriesRow) → List (List (List ℕ)) → Result (List (List SeriesRow)) ℕ
rows_from stocks number tables [] = at_end number tables
rows_from stocks number tables (fields ∷ rest) = elim (after_record stocks number tables fields) [
  | None ↦ Err number
  | Some more ↦ rows_from stocks (number + 1) more rest
]

-- no rows of any stock
abbrev pub no_rows : List Data → List (List SeriesRow)
no_rows stocks = replicate (length stocks) []

-- the rows of each stock that the text says, or the number of the first record that is refused
abbrev pub read_rows : List Data → List ℕ → Result (List (List SeriesRow)) ℕ
read_rows stocks text = rows_from stocks 0 (no_rows stocks) (records_of text)
