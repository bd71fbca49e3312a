-- Where two runs part.
use Rattle.std.specs.Prelude.{◌≡◌, ◌+◌, ℕ, List, [], ◌∷◌, Option, None, Some, if◌then◌else◌}
use Rattle.market_types.specs.Told.{EventTold, EntryTold, event, edit}
use Rattle.study_report.specs.Same.{same_event}

-- the records of a trace in order; edits are no records
abbrev pub events_in : List EntryTold → List EventTold
events_in [] = []
events_in (event r ∷ entries) = r ∷ events_in entries
events_in (edit x ∷ entries) = events_in entries

-- records are numbered from this number on, one after another
abbrev pub AreNumbered : ℕ → List EventTold → Type 0
AreNumbered n [] = Unit {0}
AreNumbered n (r ∷ rs) = (r.number ≡ n) × AreNumbered (n + 1) rs

-- the records of a trace are numbered 1, 2, 3 and so on
abbrev pub IsNumbered : List EntryTold → Type 0
IsNumbered entries = AreNumbered 1 (events_in entries)

-- The least number, from this one on, whose records differ or stand in one list alone; 0 where there is none.
abbrev pub difference_from : ℕ → List EventTold → List EventTold → ℕ
difference_from n [] [] = 0
difference_from n [] (s ∷ ss) = n
difference_from n (r ∷ rs) [] = n
difference_from n (r ∷ rs) (s ∷ ss) = if same_event r s then difference_from (n + 1) rs ss else n

-- The least event number whose records differ or stand in one trace alone; 0 where there is none. Edits aren't compared.
abbrev pub first_difference_of : List EntryTold → List EntryTold → ℕ
first_difference_of a b = difference_from 1 (events_in a) (events_in b)

-- the first record and those after it
abbrev pub parted : List EventTold → Option (EventTold × List EventTold)
parted [] = None
parted (r ∷ rs) = Some (r, rs)

-- The number of the first record that differs from the one at its place in the other list or stands in one list alone; 0 where
-- there is none.
abbrev pub first_apart : List EventTold → List EventTold → ℕ
first_apart [] [] = 0
first_apart [] (s ∷ ss) = s.number
first_apart (r ∷ rs) [] = r.number
first_apart (r ∷ rs) (s ∷ ss) = if same_event r s then first_apart rs ss else r.number
