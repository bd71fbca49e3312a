-- What the steps at the place of a key are, together, as what the seat got there.
use Rattle.std.proofs.Common.{◌≡◌, ◌≢◌, ◌⊎◌, inl, inr, ℕ, Bool, true, false, MatchBool, Some, sym, refl, subst}
use Rattle.shelf_core.specs.Plan.{place_of}
use Rattle.shelf_core.specs.After.{with_turn, with_loan, having_returned}
use Rattle.shelf_core.specs.Possible.{allows}
use Rattle.shelf_core.specs.Made.{Makes}
use Rattle.shelf_core.specs.Calls.{SeesPlace, is_fork_place, Began, Refused, Borrowed}
use Rattle.shelf_core.specs.declared.plan.Key.{Key}
use Rattle.shelf_core.specs.declared.plan.ShelfPlan.{ShelfPlan}
use Rattle.shelf_core.specs.declared.words.PlaceWord.{PlaceWord}
use Rattle.shelf_core.specs.declared.words.PlaceWord.TheVariants.{Free}
use Rattle.shelf_core.specs.declared.event.Event.TheVariants.{Begin, Lend, Return}
use Rattle.shelf_core.specs.declared.seat.SeatView.{SeatView}
use Rattle.checkpoint_shelf.specs.Codes.{WordFits}

pub from_true : (b : Bool) (P Q : Type 0) → b ≡ true → P → MatchBool b P Q
from_true b P Q e p = subst (λ c. MatchBool c P Q) (sym e) p

pub from_false : (b : Bool) (P Q : Type 0) → b ≡ false → Q → MatchBool b P Q
from_false b P Q e q = subst (λ c. MatchBool c P Q) (sym e) q

module _ (plan : ShelfPlan) (place : ℕ) (key : Key) (is : place_of plan key ≡ Some place) where
  -- A turn at a fork's place is taken at once.
  pub began_fork : (v w : SeatView) → is_fork_place plan place ≡ true → (w ≡ with_turn place key v) × Makes plan (λ n. Begin n key) v w → Began plan key v w
  began_fork v w fork h = (place, v, is, from_true (is_fork_place plan place) (v ≡ v) ((first : PlaceWord) × SeesPlace plan place first v v × (allows plan place key first ≡ true)) fork refl, h.0, h.1)

  -- A turn at a place of the grid is taken behind a load of its word.
  pub began_grid : (v m w : SeatView) (first : PlaceWord) → is_fork_place plan place ≡ false → SeesPlace plan place first v m → allows plan place key first ≡ true
      → (w ≡ with_turn place key m) × Makes plan (λ n. Begin n key) m w → Began plan key v w
  began_grid v m w first grid sees may h = (place, m, is, from_false (is_fork_place plan place) (m ≡ v) ((first : PlaceWord) × SeesPlace plan place first v m × (allows plan place key first ≡ true)) grid (first, sees, may), h.0, h.1)

  -- What a refusal is at a place of the grid.
  abbrev pub RefusedGrid : PlaceWord → SeatView → SeatView → Type 0
  RefusedGrid word v w = (SeesPlace plan place word v w × (allows plan place key word ≡ false))
      ⊎ ((m : SeatView) × (first : PlaceWord) × SeesPlace plan place first v m × (allows plan place key first ≡ true) × SeesPlace plan place word m w × (word ≢ first))

  pub refused_fork : (word : PlaceWord) (v w : SeatView) → is_fork_place plan place ≡ true → (word ≢ Free) × WordFits word × SeesPlace plan place word v w → Refused plan key word v w
  refused_fork word v w fork h = (place, is, from_true (is_fork_place plan place) (SeesPlace plan place word v w × (word ≢ Free)) (RefusedGrid word v w) fork (h.2, h.0))

  pub refused_first : (word : PlaceWord) (v w : SeatView) → is_fork_place plan place ≡ false → SeesPlace plan place word v w → allows plan place key word ≡ false → Refused plan key word v w
  refused_first word v w grid sees not = (place, is, from_false (is_fork_place plan place) (SeesPlace plan place word v w × (word ≢ Free)) (RefusedGrid word v w) grid (inl (sees, not)))

  pub refused_grid : (word : PlaceWord) (v m w : SeatView) (first : PlaceWord) → is_fork_place plan place ≡ false → SeesPlace plan place first v m → allows plan place key first ≡ true
      → (word ≢ first) × WordFits word × SeesPlace plan place word m w → Refused plan key word v w
  refused_grid word v m w first grid sees may h = (place, is, from_false (is_fork_place plan place) (SeesPlace plan place word v w × (word ≢ Free)) (RefusedGrid word v w) grid (inr (m, first, sees, may, h.2, h.0)))

  -- A value that was lent and returned.
  pub borrowed : (v m w : SeatView) → m ≡ with_loan (Some plan) place key v → Makes plan (λ n. Lend n key) v m → w ≡ having_returned key m → Makes plan Return m w → Borrowed plan key v w
  borrowed v m w lent lend returned back = (place, m, is, lent, lend, returned, back)
