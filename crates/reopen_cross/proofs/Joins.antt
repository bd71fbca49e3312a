-- A further order in a list of interest.
use Rattle.std.proofs.Common.{◌≤◌, ◌<◌, List, [], ◌∷◌, ◌++◌, length, All, arith}
use Rattle.std.specs.List.{AllByRecursion}
use Rattle.std.proofs.lemmas.List.{length_push}
use Rattle.std.proofs.lemmas.List.Elements.{All-nil, All-push, recursion_from_All}
use Rattle.market_types.specs.Limits.{highest_price}
use Rattle.reopen_cross.specs.declared.cross.Interest.{Interest}
use Rattle.reopen_cross.specs.Orderly.{AreInterests, IsRising}

all-push : (P : Interest → Type 0) (w : List Interest) (o : Interest) → AllByRecursion P w → P o → AllByRecursion P (w ++ o ∷ [])
all-push P [] o a h = (h, tt)
all-push P (x ∷ w) o a h = (a.0, all-push P w o a.1 h)

rising-push : (w : List Interest) (o : Interest) → IsRising w → AllByRecursion (λ (x : Interest). x.reference < o.reference) w → IsRising (w ++ o ∷ [])
rising-push [] o r a = (tt, tt)
rising-push (x ∷ w) o r a = (all-push (λ (y : Interest). x.reference < y.reference) w o r.0 a.0, rising-push w o r.1 a.1)

pub no-orders : AreInterests []
no-orders = record {
  few = omega arith;
  rising = tt;
  some = All-nil (λ (x : Interest). 1 ≤ x.left);
  small = All-nil (λ (x : Interest). x.left ≤ 999999);
  priced = All-nil (λ (x : Interest). 1 ≤ x.price);
  within = All-nil (λ (x : Interest). x.price ≤ highest_price);
}

pub one-joins : (list : List Interest) (o : Interest) → AreInterests list → length list < 32768 → All (λ (x : Interest). x.reference < o.reference) list
    → 1 ≤ o.left → o.left ≤ 999999 → 1 ≤ o.price → o.price ≤ highest_price → AreInterests (list ++ o ∷ [])
one-joins list o a few later some small priced within = record {
  few = omega (arith, few, length_push list o);
  rising = rising-push list o a.rising (recursion_from_All (λ (x : Interest). x.reference < o.reference) list later);
  some = All-push (λ (x : Interest). 1 ≤ x.left) list o a.some some;
  small = All-push (λ (x : Interest). x.left ≤ 999999) list o a.small small;
  priced = All-push (λ (x : Interest). 1 ≤ x.price) list o a.priced priced;
  within = All-push (λ (x : Interest). x.price ≤ highest_price) list o a.within within;
}
