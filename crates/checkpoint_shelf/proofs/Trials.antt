-- What small runs of a seat's calls leave.
use Rattle.std.proofs.Common.{◌≡◌, ℕ, ◌<◌, List, [], ◌∷◌, ◌++◌, length, Some, slice_get, sym, ap, ◌∙◌, subst, arith, length-append}
use Rattle.shelf_core.specs.Views.{new_view}
use Rattle.shelf_core.specs.After.{with_claim}
use Rattle.shelf_core.specs.Made.{Makes}
use Rattle.shelf_core.specs.declared.plan.ShelfPlan.{ShelfPlan}
use Rattle.shelf_core.specs.declared.event.Event.{Event}
use Rattle.shelf_core.specs.declared.seat.SeatView.{SeatView}
use Rattle.checkpoint_shelf.specs.Told.{ShelfTold, SeatTold}
use Rattle.checkpoint_shelf.specs.Seats.{NewFrom}

-- A seat that just claimed a segment has one to count.
pub can_count : (plan : ShelfPlan) (event : ℕ → Event) (segment : ℕ) (v w : SeatView) → w ≡ with_claim segment v → Makes plan event v w → w.counts < length w.claims
can_count plan event segment v w is m =
    let a = m.orderly.sound.counts.within m.seat v m.had in let l = length-append v.claims (segment ∷ []) in
    let less : v.counts < length (v.claims ++ segment ∷ []) = omega arith in
    subst (λ (u : SeatView). u.counts < length u.claims) (sym is) less

module _ {Co : Type 0} (shelf : ShelfTold Co) where
  abbrev pub IsNew : ℕ → SeatTold Co → Type 0
  IsNew n seat = (seat.shelf ≡ Some shelf) × (seat.view ≡ new_view n)

  pub record TwoNew (a b : SeatTold Co) : Type 0 where
    pub zero : IsNew 0 a
    pub one : IsNew 1 b

  -- The two seats of a new shelf, taken from the end.
  pub two_new : (old mid rest : List (SeatTold Co)) (a b : SeatTold Co) → NewFrom shelf 0 old → length old ≡ 2 → old ≡ mid ++ b ∷ [] → mid ≡ rest ++ a ∷ [] → TwoNew a b
  two_new old mid [] a b new two last first = let is : old ≡ a ∷ b ∷ [] = last ∙ ap (λ l. l ++ b ∷ []) first in
      record { zero = new 0 a (ap (λ l. slice_get l 0) is); one = new 1 b (ap (λ l. slice_get l 1) is) }
  two_new old mid (x ∷ xs) a b new two last first =
      let l = length-append mid (b ∷ []) in let m = length-append (x ∷ xs) (a ∷ []) in let o = ap length last in let p = ap length first in absurd (omega arith)
