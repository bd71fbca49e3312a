-- States that are reached along a chain of segments.
use Rattle.std.specs.Prelude.{◌≡◌, ◌≤◌, ◌<◌, ℕ, Bool, true, false, nat_lt, is_some, if◌then◌else◌}
use Rattle.branch_tree.specs.declared.stop.Stop.{Stop}
use Rattle.branch_tree.specs.declared.stop.Stop.TheVariants.{At, When}
use Rattle.branch_tree.specs.Plan.{Plan}
use Rattle.branch_tree.specs.Segments.{segment_at}
use Rattle.market_floor.specs.declared.opening.Opening.{Opening}
use Rattle.kernel_core.specs.State.{State}
use Rattle.kernel_core.specs.Step.{end_of}
use Rattle.kernel_core.specs.Until.{until}
use Rattle.kernel_core.specs.Due.{due_by}
use Rattle.kernel_copy.specs.Courses.{CourseTold}
use Rattle.kernel_copy.specs.UntilStop.{until_stop}
use Rattle.kernel_copy.specs.Full.{full}
use Rattle.kernel_copy.specs.Segmentwise.{afresh, segment_end}
use Rattle.rewind_desk.specs.Best.{is_on}

-- a segment is on the chain that ends with another
abbrev pub IsOn : Plan → ℕ → ℕ → Type 0
IsOn p s q = is_on p s q ≡ true

-- a state has one more event before a stop: it isn't ended, and fewer events stand than the stop says, or a message is due at
-- or before its time
abbrev pub has_more : Opening → Stop → State → Bool
has_more o (At n) s = if is_some (end_of o s) then false else nat_lt s.events n
has_more o (When w) s = due_by o w s

-- From this state a segment's own run goes on: to the segment's end, and to each event number that it hasn't passed as the
-- branch's full run does.
pub record RunsOn (c : CourseTold) (s : ℕ) (k : State) : Type 0 where
  pub ends : (until_stop c.opening (segment_at c.plan s).stop (afresh k)).state ≡ (segment_end c.opening c.plan (segment_at c.plan s)).state
  pub runs : (e : ℕ) → k.events ≤ e → (until c.opening e (afresh k)).state ≡ (full c.opening c.plan (segment_at c.plan s).branch e).state

-- It is the state of a segment's branch after e events, and there are more before the segment's end; or it is the segment's
-- end, which has no more than e.
pub record IsAt (c : CourseTold) (s e : ℕ) (k : State) (more : Bool) : Type 0 where
  pub further : more ≡ nat_lt e (segment_end c.opening c.plan (segment_at c.plan s)).state.events
  pub events : e < (segment_end c.opening c.plan (segment_at c.plan s)).state.events → k.events ≡ e
  pub state : e < (segment_end c.opening c.plan (segment_at c.plan s)).state.events → k ≡ (full c.opening c.plan (segment_at c.plan s).branch e).state
  pub whole : (segment_end c.opening c.plan (segment_at c.plan s)).state.events ≤ e → k ≡ (segment_end c.opening c.plan (segment_at c.plan s)).state
