-- Runs that are told in parts.
use Rattle.std.proofs.Common.{◌≡◌, ◌∙◌, ℕ, ◌+◌, ◌<◌, List, [], ◌∷◌, ◌++◌, length, get_or, drop, refl, ap, sym}
use Rattle.std.specs.List.{flat_map}
use Rattle.std.proofs.lemmas.List.{drop_more}
use Rattle.market_types.specs.Told.{EntryTold, event, edit}
use Rattle.study_report.specs.Difference.{events_in}

pub events_in-append : (es fs : List EntryTold) → events_in (es ++ fs) ≡ events_in es ++ events_in fs
events_in-append [] fs = refl
events_in-append (event r ∷ es) fs = ap (λ rs. r ∷ rs) (events_in-append es fs)
events_in-append (edit m ∷ es) fs = events_in-append es fs

-- a part and those after it
pub from_part : {X : Type 0} (f : X → List EntryTold) (xs : List X) (i : ℕ) (x : X) → i < length xs → x ≡ get_or xs i x → flat_map f (drop i xs) ≡ f x ++ flat_map f (drop (i + 1) xs)
from_part f xs i x within at =
    ap (flat_map f) (drop_more xs i x within) ∙ ap (λ y. f y ++ flat_map f (drop (i + 1) xs)) (sym at)
