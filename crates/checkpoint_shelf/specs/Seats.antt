-- Lists of seats.
use Rattle.std.specs.Prelude.{◌≡◌, ℕ, ◌+◌, List, [], ◌∷◌, length, Some, slice_get}
use Rattle.shelf_core.specs.Views.{new_view, spent_view}
use Rattle.shelf_core.specs.After.{joined_with}
use Rattle.shelf_core.specs.declared.seat.SeatView.{SeatView}
use Rattle.checkpoint_shelf.specs.Told.{ShelfTold, SeatTold}

module _ {Co : Type 0} where
  -- The seats of a shelf as they are made, from this number on, each at its place.
  abbrev pub NewFrom : ShelfTold Co → ℕ → List (SeatTold Co) → Type 0
  NewFrom shelf first seats = (i : ℕ) (seat : SeatTold Co) → slice_get seats i ≡ Some seat → (seat.shelf ≡ Some shelf) × (seat.view ≡ new_view (first + i))

  -- All seats of a shelf, in the order of their numbers, with no turn out.
  pub record AllBack (shelf : ShelfTold Co) (seats : List (SeatTold Co)) : Type 0 where
    pub all : length seats ≡ shelf.seats
    pub each : (i : ℕ) (seat : SeatTold Co) → slice_get seats i ≡ Some seat → (seat.shelf ≡ Some shelf) × ((rest : List ℕ) × (seat.view.numbers ≡ i ∷ rest)) × (seat.view.turns ≡ [])

  -- Other seats of the shelf than the first, in the order of their numbers, with no turn out.
  abbrev pub AreLater : ShelfTold Co → List (SeatTold Co) → Type 0
  AreLater shelf seats = (i : ℕ) (seat : SeatTold Co) → slice_get seats i ≡ Some seat → (seat.shelf ≡ Some shelf) × ((rest : List ℕ) × (seat.view.numbers ≡ (1 + i) ∷ rest)) × (seat.view.turns ≡ [])

-- The view of a seat that took in these, the last of them first.
abbrev pub gathered : SeatView → List SeatView → SeatView
gathered view [] = view
gathered view (other ∷ others) = joined_with other (gathered view others)

-- The view of the first of these seats, when it took in all others.
abbrev pub all_in : List SeatView → SeatView
all_in [] = spent_view
all_in (view ∷ others) = gathered view others
