-- What a study's entries say of its branches. A value that is missing reads as 0, as the empty text or as no entries.
use Rattle.std.specs.Prelude.{ℕ, ℤ, Bool, List, is_some, unwrap_or, codes}
use Rattle.toml.specs.Data.{Data, Members, no_members, as_table}
use Rattle.study_file.specs.Tables.{integer_at}
use Rattle.study_file.specs.Values.{number_at, number_or, string_at, list_at}

-- the table of an entry
abbrev pub entry_of : Data → Members
entry_of d = unwrap_or (as_table d) no_members

-- the entries of the branches; the root has none
abbrev pub branch_entries : Members → List Data
branch_entries t = list_at (codes "branch") t

-- the name of a branch, that of its parent, and the entries of its edits
abbrev pub name_in : Data → List ℕ
name_in d = string_at (codes "name") (entry_of d)

abbrev pub parent_in : Data → List ℕ
parent_in d = string_at (codes "parent") (entry_of d)

abbrev pub edits_in : Data → List Data
edits_in d = list_at (codes "edit") (entry_of d)

-- whether a branch leaves its parent at a time; else it does so at an event number
abbrev pub is_timed : Data → Bool
is_timed d = is_some (integer_at (codes "when") (entry_of d))

-- the time or the event number at which it does so
abbrev pub stop_in : Data → ℤ
stop_in d = number_or (number_at (codes "at") (entry_of d)) (codes "when") (entry_of d)
