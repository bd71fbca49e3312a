-- Courses, and the checkpoints of their states.
use Rattle.std.specs.Prelude.{◌≡◌, ◌<◌, ◌≤◌, ◌⊎◌, ℕ, true, nat_lt, if◌then◌else◌, List, Option, None, Some, length, All}
use Rattle.market_rules.specs.declared.edit.Edit.{Edit}
use Rattle.branch_tree.specs.declared.branch.Branch.{Branch}
use Rattle.branch_tree.specs.declared.segment.Segment.{Segment}
use Rattle.branch_tree.specs.Plan.{Plan}
use Rattle.branch_tree.specs.Tree.{IsRooted, plan_refusal}
use Rattle.branch_tree.specs.Segments.{segments_in, segment_at, last_of}
use Rattle.market_floor.specs.declared.opening.Opening.{Opening}
use Rattle.market_floor.specs.Opening.{IsOpening}
use Rattle.kernel_core.specs.Open.{opened}
use Rattle.kernel_core.specs.Edited.{IsEditOf}
use Rattle.kernel_core.specs.State.{State}
use Rattle.shelf_core.specs.declared.plan.Key.{Key}
use Rattle.kernel_copy.specs.Segmentwise.{segment_end, from_count, fork_number, is_past, after}

-- A study's opening and plan as plain data.
pub record CourseTold : Type 0 where
  pub opening : Opening
  pub plan : Plan

-- A branch's edits are at most 16, and each can be made at the opening: its stock, trader and groups exist, its numbers are in
-- their ranges, and a parameter belongs to the trader's kind.
pub record AreEdits (o : Opening) (es : List Edit) : Type 0 where
  pub few : length es ≤ 16
  pub fit : All (λ (e : Edit). IsEditOf (opened o) e) es

-- The opening is in the ranges of a study's rules, the branches make a tree under its limit of events, and their edits keep to
-- the rules.
pub record IsCourse (c : CourseTold) : Type 0 where
  pub opening : IsOpening c.opening
  pub limit : c.plan.limit ≡ c.opening.limit
  pub rooted : IsRooted c.plan.branches
  pub accepted : plan_refusal c.plan.branches c.plan.limit ≡ None
  pub edits : All (λ (b : Branch). AreEdits c.opening b.edits) c.plan.branches

-- A segment may go on from this one: it is earlier, and isn't its branch's last.
pub record GoesOnFrom (p : Plan) (s q : ℕ) : Type 0 where
  pub earlier : q < s
  pub unfinished : q < last_of p.branches (segment_at p q).branch

-- A segment's run stands at this event number: those before its own events, or one of them.
pub record StandsAt (o : Opening) (p : Plan) (g : Segment) (e : ℕ) : Type 0 where
  pub from : from_count o p g ≤ e
  pub to : e ≤ (segment_end o p g).state.events

-- The number of a segment's state: that of its end's key, one at which its run stands, or one past its end up to its stop.
abbrev pub IsNumberOf : Opening → Plan → Segment → ℕ → Type 0
IsNumberOf o p g e = (e ≡ fork_number g.stop) ⊎ (StandsAt o p g e ⊎ (is_past (segment_end o p g).state.events g.stop e ≡ true))

-- a key of a course: a segment, and the number of one of its states
pub record IsKeyOf (c : CourseTold) (k : Key) : Type 0 where
  pub segment : k.segment < length (segments_in c.plan)
  pub event : IsNumberOf c.opening c.plan (segment_at c.plan k.segment) k.event

-- the course's state at a key: the segment's after so many events
abbrev pub state_at : CourseTold → Key → State
state_at c k = after c.opening c.plan (segment_at c.plan k.segment) k.event

-- A kept state as plain data.
pub record CheckpointTold : Type 0 where
  pub course : CourseTold
  pub key : Key
  pub state : State

-- it is the course's state at the key
pub record IsCheckpoint (c : CheckpointTold) : Type 0 where
  pub key : IsKeyOf c.course c.key
  pub state : c.state ≡ state_at c.course c.key

-- the end of a segment as a checkpoint
abbrev pub end_of_segment : CourseTold → ℕ → CheckpointTold
end_of_segment c s = record {
  course = c;
  key = record { segment = s; event = fork_number (segment_at c.plan s).stop };
  state = (segment_end c.opening c.plan (segment_at c.plan s)).state;
}

-- what is kept of a segment: its end, unless it is its branch's last
abbrev pub kept_of : CourseTold → ℕ → Option CheckpointTold
kept_of c s = if nat_lt s (last_of c.plan.branches (segment_at c.plan s).branch) then Some (end_of_segment c s) else None
