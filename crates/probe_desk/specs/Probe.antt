-- What a probe is, whatever object it is.
use Rattle.std.specs.Prelude.{ℤ, List, [], ◌∷◌}
use Rattle.market_types.specs.Told.{EventTold, EntryTold, event, edit}

-- A probe keeps a list of numbers. From its settings come the list that it opens with, the list after a record, and
-- the number that a list says.
pub record Meaning : Type 0 where
  pub settings : List ℤ
  pub opening : List ℤ
  pub after : List ℤ → EventTold → List ℤ
  pub value : List ℤ → ℤ

-- the list after the records of a trace, delivered and put back, in order; edits are no records
abbrev pub seen : Meaning → List ℤ → List EntryTold → List ℤ
seen m numbers [] = numbers
seen m numbers (event r ∷ entries) = seen m (m.after numbers r) entries
seen m numbers (edit x ∷ entries) = seen m numbers entries

-- a probe's number for a run: that of its opening list folded over the run's records
abbrev pub column_of : Meaning → List EntryTold → ℤ
column_of m entries = m.value (seen m m.opening entries)
