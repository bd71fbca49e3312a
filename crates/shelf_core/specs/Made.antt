-- One step of a seat, as an event of the shared system.
use Rattle.std.specs.Prelude.{◌≡◌, ℕ, true, Some, slice_get}
use Rattle.shelf_core.specs.Plan.{is_in}
use Rattle.shelf_core.specs.Possible.{possible, seen_at}
use Rattle.shelf_core.specs.After.{after, having_loaded}
use Rattle.shelf_core.specs.Orderly.{Orderly}
use Rattle.shelf_core.specs.declared.plan.Key.{Key}
use Rattle.shelf_core.specs.declared.plan.ShelfPlan.{ShelfPlan}
use Rattle.shelf_core.specs.declared.words.Word.{Word}
use Rattle.shelf_core.specs.declared.words.Seen.{Seen}
use Rattle.shelf_core.specs.declared.seat.SeatView.{SeatView}
use Rattle.shelf_core.specs.declared.system.System.{System}
use Rattle.shelf_core.specs.declared.event.Event.{Event}
use Rattle.shelf_core.specs.declared.event.Event.TheVariants.{Load}

-- A seat with the view v made this event, which was possible in an orderly system of this plan, and has the view w
-- that the event leaves it. An event is given by the number of the seat that makes it.
pub record Makes (plan : ShelfPlan) (event : ℕ → Event) (v w : SeatView) : Type 0 where
  pub seat : ℕ
  pub before : System
  pub orderly : Orderly before
  pub laid : before.plan ≡ Some plan
  pub had : slice_get before.views seat ≡ Some v
  pub can : possible before (event seat) ≡ true
  pub has : slice_get (after before (event seat)).views seat ≡ Some w

-- The event was a load of this word, and this stood in it.
pub record Sees (plan : ShelfPlan) (word : Word) (seen : Seen) (v w : SeatView) : Type 0 where
  pub step : Makes plan (λ n. Load n word) v w
  pub sees : seen_at step.before word ≡ Some seen
  pub is : w ≡ having_loaded (Some plan) (Some seen) v

-- What a load leaves of a view: all but what it learns.
pub record Same (v w : SeatView) : Type 0 where
  pub numbers : w.numbers ≡ v.numbers
  pub spent : w.spent ≡ v.spent
  pub claims : w.claims ≡ v.claims
  pub counts : w.counts ≡ v.counts
  pub turns : w.turns ≡ v.turns
  pub loan : w.loan ≡ v.loan
  pub found : w.found ≡ v.found

-- What every call leaves as it was: the seat's numbers, claims and counts; and of what it knew and found nothing is lost.
pub record Stays (v w : SeatView) : Type 0 where
  pub numbers : w.numbers ≡ v.numbers
  pub claims : w.claims ≡ v.claims
  pub counts : w.counts ≡ v.counts
  pub known : (key : Key) → is_in key v.known ≡ true → is_in key w.known ≡ true
  pub found : (key : Key) → is_in key v.found ≡ true → is_in key w.found ≡ true
