-- What the marks of a rewind come to in a study, what is written of them, and how many steps lead there.
use Rattle.std.specs.Prelude.{◌<◌, ◌≤◌, ℕ, ◌-◌, zero, suc, List, [], ◌∷◌, ◌++◌, length, map, slice_index_or, sum_by}
use Rattle.std.specs.List.{flat_map}
use Rattle.command_words.specs.declared.mark.Mark.{Mark}
use Rattle.branch_tree.specs.Plan.{branch_at}
use Rattle.kernel_core.specs.State.{State}
use Rattle.kernel_copy.specs.Courses.{CourseTold}
use Rattle.kernel_copy.specs.Full.{full}
use Rattle.bundle_frames.specs.Frames.{branch_frame, end_frame}
use Rattle.trace_bundle.specs.Bundle.{parent_written}
use Rattle.kernel_copy.specs.States.{state_frames_of}
use Rattle.study_rules.specs.Accepted.{StudyTold}
use Rattle.rewind_desk.specs.declared.target.Target.{Target}
use Rattle.checkpoint_shelf.specs.Told.{ClosedTold}
use Rattle.rewind_desk.specs.Best.{best}
use Rattle.rewind_desk.specs.Rewinds.{last_event}
use Rattle.rewind_desk.specs.Sure.{sure}
use Rattle.branch_workers.specs.Layout.{layout}

-- a mark's argument as it is written
abbrev pub argument_at : List Mark → ℕ → List ℕ
argument_at marks i = slice_index_or (map (λ (m : Mark). m.word) marks) i []

-- the numbers of the last events of the full runs of the branches before this one
abbrev pub lasts_before : CourseTold → ℕ → List ℕ
lasts_before c zero = []
lasts_before c (suc n) = lasts_before c n ++ last_event c n ∷ []

-- those of all branches
abbrev pub lasts_of : CourseTold → List ℕ
lasts_of c = lasts_before c (length c.plan.branches)

-- the frame of a target's branch, with the target's event as its stop
abbrev pub target_head : CourseTold → Target → List ℕ
target_head c t = branch_frame t.branch (parent_written c t.branch) t.event (branch_at c.plan.branches t.branch).name

-- the state of a branch's full run after the target's event, with the edits there made
abbrev pub target_state : CourseTold → Target → State
target_state c t = (full c.opening c.plan t.branch t.event).state

-- the frames of a target: its branch and its state
abbrev pub target_frames : CourseTold → Target → List ℕ
target_frames c t = target_head c t ++ state_frames_of c.opening (target_state c t)

-- those of each target in order, and how many targets there are
unfoldable pub rewinds_of : CourseTold → List Target → List ℕ
rewinds_of c targets = flat_map (target_frames c) targets ++ end_frame (length targets)

-- The most steps that lead to a target: those from the latest state up to it that is sure to be kept, where so many places are
-- there for the states between the ends of segments.
abbrev pub steps_to : StudyTold → ℕ → Target → ℕ
steps_to s places t = t.event - sure s.course (layout s.course.plan s.stride places) t.branch t.event

-- the same of all targets, each reached by itself
abbrev pub steps_to_all : StudyTold → ℕ → List Target → ℕ
steps_to_all s places targets = sum_by (steps_to s places) targets

-- the steps that lead to a target from the nearest state that a closed shelf holds
abbrev pub steps_from : ClosedTold CourseTold → Target → ℕ
steps_from shelf t = t.event - best shelf t.branch t.event

-- a target's branch is there, and its full run has the target's event
pub record IsThere (c : CourseTold) (t : Target) : Type 0 where
  pub branch : t.branch < length c.plan.branches
  pub event : t.event ≤ last_event c t.branch
