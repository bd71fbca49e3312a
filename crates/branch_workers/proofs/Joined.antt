-- What the seat has that took in all others.
use Rattle.std.proofs.Common.{◌≡◌, ℕ, suc, ◌+◌, List, [], ◌∷◌, Some, slice_get, sum_by, refl, arith}
use Rattle.std.proofs.lemmas.List.Sums.{sum_by-cons}
use Rattle.shelf_core.specs.After.{joined_with}
use Rattle.shelf_core.specs.declared.seat.SeatView.{SeatView}
use Rattle.checkpoint_shelf.specs.Seats.{gathered, all_in}

-- A fact that holds of a view that took in another wherever it holds of both, holds of the view that took in all.
module _ (Fact : SeatView → Type 0) (joins : (v w : SeatView) → Fact v → Fact w → Fact (joined_with w v)) where
  gathers : (v : SeatView) (vs : List SeatView) → Fact v → ((i : ℕ) (w : SeatView) → slice_get vs i ≡ Some w → Fact w) → Fact (gathered v vs)
  gathers v [] f each = f
  gathers v (w ∷ vs) f each = joins (gathered v vs) w (gathers v vs f (λ i u e. each (suc i) u e)) (each 0 w refl)

  pub joined_fact : (v : SeatView) (vs : List SeatView) → ((i : ℕ) (w : SeatView) → slice_get (v ∷ vs) i ≡ Some w → Fact w) → Fact (all_in (v ∷ vs))
  joined_fact v vs each = gathers v vs (each 0 v refl) (λ i w e. each (suc i) w e)

-- A number of each view, added up over all, where the view that took in another has both.
pub added_up : (f : SeatView → ℕ) → ((v w : SeatView) → f (joined_with w v) ≡ f v + f w) → (v : SeatView) (vs : List SeatView) → f (all_in (v ∷ vs)) ≡ sum_by f (v ∷ vs)
added_up f adds v [] = let a = sum_by-cons f v [] in omega arith
added_up f adds v (w ∷ vs) =
    let r = added_up f adds v vs in let e = adds (gathered v vs) w in
    let a = sum_by-cons f v (w ∷ vs) in let b = sum_by-cons f w vs in let d = sum_by-cons f v vs in omega arith
