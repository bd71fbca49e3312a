-- A system whose seats are all back.
use Rattle.std.specs.Prelude.{◌≡◌, ℕ, Bool, true, false, [], Some, None, slice_get}
use Rattle.shelf_core.specs.Views.{times, live_count}
use Rattle.shelf_core.specs.declared.words.ClaimWord.TheVariants.{Taken}
use Rattle.shelf_core.specs.declared.words.PlaceWord.{PlaceWord}
use Rattle.shelf_core.specs.declared.words.PlaceWord.TheVariants.{Free, Writing, Ready, Lent}
use Rattle.shelf_core.specs.declared.seat.SeatView.{SeatView}
use Rattle.shelf_core.specs.declared.system.System.{System}

-- One seat took in all others, and has no turn and no loan.
pub record IsBack (s : System) (view : SeatView) : Type 0 where
  pub seat : ℕ
  pub there : slice_get s.views seat ≡ Some view
  pub live : view.spent ≡ false
  pub alone : live_count s.views ≡ 1
  pub turns : view.turns ≡ []
  pub loan : view.loan ≡ None

-- No seat is at work at a place with this word.
abbrev pub is_at_rest : PlaceWord → Bool
is_at_rest Free = true
is_at_rest (Writing n) = false
is_at_rest (Ready key) = true
is_at_rest (Lent key n) = false

-- Each place is Free or Ready, each segment that is taken is one of that seat's claims, under one of its numbers, and
-- the done number is its count.
pub record IsSettled (s : System) (view : SeatView) : Type 0 where
  pub places : (place : ℕ) (word : PlaceWord) → slice_get s.places place ≡ Some word → is_at_rest word ≡ true
  pub claims : (segment n : ℕ) → slice_get s.claims segment ≡ Some (Taken n) → times segment view.claims ≡ 1
  pub numbers : (segment n : ℕ) → slice_get s.claims segment ≡ Some (Taken n) → times n view.numbers ≡ 1
  pub done : s.done ≡ view.counts
