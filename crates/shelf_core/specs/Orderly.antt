use Rattle.std.specs.Prelude.{◌≡◌, ℕ, ◌<◌, ◌++◌, ◌^◌, true, false, List, [], ◌∷◌, Option, Some, None, slice_get, length}
use Rattle.shelf_core.specs.Plan.{are_distinct, place_count}
use Rattle.shelf_core.specs.Words.{taken_count}
use Rattle.shelf_core.specs.Views.{spent_view, times, total}
use Rattle.shelf_core.specs.Sound.{ForViews, Sound}
use Rattle.shelf_core.specs.declared.plan.ShelfPlan.{ShelfPlan}
use Rattle.shelf_core.specs.declared.seat.SeatView.{SeatView}
use Rattle.shelf_core.specs.declared.system.System.{System}
use Rattle.shelf_core.specs.declared.event.Event.{Event}
use Rattle.shelf_core.specs.declared.event.Event.TheVariants.{Lay, Claim, Begin, Publish, Abandon, Lend, Return, Count, Stop, Load, Split, Join}

-- The words and values are as many as the plan says, and its keys are distinct; where nothing is laid there are none.
pub record IsBare (s : System) : Type 0 where
  pub claims : s.claims ≡ []
  pub places : s.places ≡ []
  pub home : s.home ≡ []
  pub done : s.done ≡ 0
  pub stopped : s.stopped ≡ false

pub record IsLaid (plan : ShelfPlan) (s : System) : Type 0 where
  pub claims : length s.claims ≡ plan.segments
  pub places : length s.places ≡ place_count plan
  pub home : length s.home ≡ place_count plan
  pub distinct : are_distinct (plan.forks ++ plan.grid) ≡ true

abbrev pub HasShape : Option ShelfPlan → System → Type 0
HasShape None s = IsBare s
HasShape (Some plan) s = IsLaid plan s

-- Some view that isn't spent has `stopped`.
abbrev pub SomeStopped : List SeatView → Type 0
SomeStopped views = (n : ℕ) × (view : SeatView) × (slice_get views n ≡ Some view) × (view.spent ≡ false) × (view.stopped ≡ true)

-- What holds of each system that events leave: it is sound and has its plan's shape, each claim is a segment of the
-- plan, a spent view has nothing, and the stop bit is set only where some view that isn't spent has `stopped`. Two more
-- parts carry the induction: a view that isn't spent stands at the place of its own number, which is the first of its
-- numbers; and the claims are as many as the segments that are taken.
pub record Orderly (s : System) : Type 0 where
  pub sound : Sound s
  pub shape : HasShape s.plan s
  pub segments : ForViews s.views (λ n view. (segment : ℕ) → 0 < times segment view.claims →
      segment < length s.claims)
  pub spent : ForViews s.views (λ n view. view.spent ≡ true → view ≡ spent_view)
  pub stopped : s.stopped ≡ true → SomeStopped s.views
  pub own : ForViews s.views (λ n view. view.spent ≡ false → (rest : List ℕ) × (view.numbers ≡ n ∷ rest))
  pub taken : total (λ view. length view.claims) s.views ≡ taken_count s.claims

-- The places of a plan that is laid are fewer than 2^32: of that which stands, and of that which an event lays.
abbrev pub IsSmall : Option ShelfPlan → Type 0
IsSmall None = Unit {0}
IsSmall (Some plan) = place_count plan < 2 ^ 32

abbrev pub IsSmallEvent : Event → Type 0
IsSmallEvent (Lay plan) = place_count plan < 2 ^ 32
IsSmallEvent (Claim n segment) = Unit {0}
IsSmallEvent (Begin n key) = Unit {0}
IsSmallEvent (Publish n key) = Unit {0}
IsSmallEvent (Abandon n key) = Unit {0}
IsSmallEvent (Lend n key) = Unit {0}
IsSmallEvent (Return n) = Unit {0}
IsSmallEvent (Count n) = Unit {0}
IsSmallEvent (Stop n) = Unit {0}
IsSmallEvent (Load n word) = Unit {0}
IsSmallEvent (Split n) = Unit {0}
IsSmallEvent (Join n m) = Unit {0}
