-- What a seat has once it ran segments.
use Rattle.std.specs.Prelude.{◌≡◌, ℕ, ◌<◌, ◌≤◌, true, Some, length}
use Rattle.branch_tree.specs.Segments.{segments_in, segment_at, last_of}
use Rattle.shelf_core.specs.Plan.{is_in, is_sole}
use Rattle.shelf_core.specs.Views.{times}
use Rattle.shelf_core.specs.declared.plan.Key.{Key}
use Rattle.shelf_core.specs.declared.plan.ShelfPlan.{ShelfPlan}
use Rattle.shelf_core.specs.declared.seat.SeatView.{SeatView}
use Rattle.checkpoint_shelf.specs.Told.{ShelfTold}
use Rattle.kernel_core.specs.Step.{Fits}
use Rattle.kernel_core.specs.Until.{Run}
use Rattle.kernel_copy.specs.Courses.{CourseTold}
use Rattle.kernel_copy.specs.Segmentwise.{from_count, segment_end, segment_run, started_at}
use Rattle.kernel_copy.specs.UntilStop.{until_part}
use Rattle.kernel_copy.specs.Ran.{RanTold, ran_as}
use Rattle.kernel_copy.specs.declared.kept.Keep.{Keep}
use Rattle.branch_workers.specs.Layout.{end_key, fork_keys, key_at, grid_keys}

-- a segment's run at its start, with the entries of the edits there, and at its end
abbrev pub run_at_start : CourseTold → ℕ → Run
run_at_start c s = started_at c.opening c.plan (segment_at c.plan s)

abbrev pub run_at_end : CourseTold → ℕ → Run
run_at_end c s = segment_run c.opening c.plan (segment_at c.plan s)

-- The shelf is of this course, with its segments, its forks and its grid of this stride, which is at least 1.
pub record IsShelfOf (c : CourseTold) (stride : ℕ) (shelf : ShelfTold CourseTold) : Type 0 where
  pub course : shelf.course ≡ c
  pub segments : shelf.plan.segments ≡ length (segments_in c.plan)
  pub forks : shelf.plan.forks ≡ fork_keys c.plan
  pub grid : shelf.plan.grid ≡ grid_keys c.plan stride
  pub some : 0 < stride

-- The run of a segment reached this event number or passed it on its way: it begins with fewer events, and its state at the
-- segment's end has so many or more.
pub record IsPassed (c : CourseTold) (s e : ℕ) : Type 0 where
  pub begins : from_count c.opening c.plan (segment_at c.plan s) < e
  pub reaches : e ≤ (segment_end c.opening c.plan (segment_at c.plan s)).state.events

-- The seat found the end of a segment's parent, if it has one; it knows the segment's own end, if others go on from it;
-- and it knows the state at each number of the segment's grid that the run passed and that has a place of its own.
pub record HasStates (c : CourseTold) (plan : ShelfPlan) (s : ℕ) (v : SeatView) : Type 0 where
  pub parent : (q : ℕ) → (segment_at c.plan s).parent ≡ Some q → is_in (end_key c.plan q) v.found ≡ true
  pub fork : s < last_of c.plan.branches (segment_at c.plan s).branch → is_in (end_key c.plan s) v.known ≡ true
  pub grid : (e : ℕ) → is_in (key_at s e) plan.grid ≡ true → is_sole plan (key_at s e) ≡ true → IsPassed c s e → is_in (key_at s e) v.known ≡ true

-- so of each segment that it claimed
abbrev pub HasAllStates : CourseTold → ShelfPlan → SeatView → Type 0
HasAllStates c plan v = (s : ℕ) → 0 < times s v.claims → HasStates c plan s v

-- A run of a segment, of which this is kept, that stopped on its way, at this event number or before: it goes on towards the
-- segment's stop, to this number and to each later one, as if it hadn't stopped.
pub record IsUnderway (c : CourseTold) (keep : Keep) (s e : ℕ) (x : RanTold) : Type 0 where
  pub run : Run
  pub is : x ≡ ran_as keep run
  pub again : (m : ℕ) → e ≤ m → until_part c.opening (segment_at c.plan s).stop m run ≡ until_part c.opening (segment_at c.plan s).stop m (started_at c.opening c.plan (segment_at c.plan s))
  pub few : run.state.events ≤ (segment_run c.opening c.plan (segment_at c.plan s)).state.events
  pub fits : Fits c.opening run.state

-- What the run of a segment leaves of a seat's view, whether it ends well or not: its numbers and claims; and of what it
-- knew and found nothing is lost.
pub record Remains (v w : SeatView) : Type 0 where
  pub numbers : w.numbers ≡ v.numbers
  pub claims : w.claims ≡ v.claims
  pub known : (key : Key) → is_in key v.known ≡ true → is_in key w.known ≡ true
  pub found : (key : Key) → is_in key v.found ≡ true → is_in key w.found ≡ true
