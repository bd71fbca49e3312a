-- The first records of two lists.
use Rattle.std.proofs.Common.{◌≡◌, ◌∙◌, Bool, List, [], ◌∷◌, Option, Some, None, ap, ap₂, sym}
use Rattle.market_types.specs.Told.{EventTold}
use Rattle.study_report.specs.Same.{same_event}
use Rattle.study_report.specs.Difference.{first_apart, parted}
use Rattle.study_report.proofs.Apart.{part}

no_Some : (p : EventTold × List EventTold) → ◌≡◌ {A = Option (EventTold × List EventTold)} (Some p) None → ⊥
no_Some p h = cc

same_Some : (p q : EventTold × List EventTold) → ◌≡◌ {A = Option (EventTold × List EventTold)} (Some p) (Some q) → p ≡ q
same_Some p q h = cc

-- a first record is that of the list
first_is : (xs rs : List EventTold) (r : EventTold) → ◌≡◌ {A = Option (EventTold × List EventTold)} (Some (r, rs)) (parted xs) → xs ≡ r ∷ rs
first_is [] rs r h = absurd (no_Some (r, rs) h)
first_is (x ∷ xs) rs r h = sym (ap (λ (p : EventTold × List EventTold). p.0 ∷ p.1) (same_Some (r, rs) (x, xs) h))

-- where two lists part, by their first records
pub apart-next : (xs ys rs ss : List EventTold) (r s : EventTold) (k : Bool) → ◌≡◌ {A = Option (EventTold × List EventTold)} (Some (r, rs)) (parted xs)
    → ◌≡◌ {A = Option (EventTold × List EventTold)} (Some (s, ss)) (parted ys) → k ≡ same_event r s → first_apart xs ys ≡ part k (first_apart rs ss) r.number
apart-next xs ys rs ss r s k own other same =
    ap₂ first_apart (first_is xs rs r own) (first_is ys ss s other) ∙ ap (λ (b : Bool). part b (first_apart rs ss) r.number) (sym same)
