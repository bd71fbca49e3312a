-- Seats that are handed back.
use Rattle.std.proofs.Common.{◌≡◌, ℕ, zero, suc, ◌+◌, List, [], ◌∷◌, length, Some, slice_get, sym, ap, ◌∙◌, subst, arith}
use Rattle.shelf_core.specs.declared.seat.SeatView.{SeatView}
use Rattle.shelf_core.proofs.Lists.{some_same, not_some, within, there}
use Rattle.checkpoint_shelf.specs.Told.{ShelfTold, SeatTold}
use Rattle.checkpoint_shelf.specs.Seats.{NewFrom, AllBack}

module _ {Co : Type 0} (shelf : ShelfTold Co) where
  -- A seat of the shelf with this number, and no turn out.
  abbrev pub IsBack : ℕ → SeatTold Co → Type 0
  IsBack n seat = (seat.shelf ≡ Some shelf) × ((rest : List ℕ) × (seat.view.numbers ≡ n ∷ rest)) × (seat.view.turns ≡ [])

  pub two_back : (a b : SeatTold Co) (seats : List (SeatTold Co)) → shelf.seats ≡ 2 → seats ≡ a ∷ b ∷ [] → IsBack 0 a → IsBack 1 b → AllBack shelf seats
  two_back a b seats two is first second = record {
    all = ap length is ∙ sym two;
    each = λ i seat e. at i seat (ap (λ l. slice_get l i) (sym is) ∙ e);
  }
    where
      at : (i : ℕ) (seat : SeatTold Co) → slice_get (a ∷ b ∷ []) i ≡ Some seat → IsBack i seat
      at zero seat e = subst (IsBack 0) (some_same a seat e) first
      at (suc zero) seat e = subst (IsBack 1) (some_same b seat e) second
      at (suc (suc i)) seat e = absurd (not_some seat e)

  pub all_back : (old new : List (SeatTold Co)) → NewFrom shelf 0 old → length old ≡ shelf.seats → length new ≡ length old
      → ((i : ℕ) (a b : SeatTold Co) → slice_get old i ≡ Some a → slice_get new i ≡ Some b → (b.shelf ≡ a.shelf) × (b.view.numbers ≡ a.view.numbers) × (b.view.turns ≡ a.view.turns))
      → AllBack shelf new
  all_back old new from many long each = record {
    all = long ∙ many;
    each = λ i seat e. let w = within new i seat e in let a = there old i (omega arith) in let f = from i a.0 a.1 in let s = each i a.0 seat a.1 e in
        let n : 0 + i ≡ i = omega arith in
        (s.0 ∙ f.0, ([], s.1 ∙ ap (λ (v : SeatView). v.numbers) f.1 ∙ ap (λ m. m ∷ []) n), s.2 ∙ ap (λ (v : SeatView). v.turns) f.1);
  }
