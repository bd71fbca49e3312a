-- How many steps acts are counted.
use Rattle.std.specs.Prelude.{ℕ, ◌+◌, ◌-◌, List, [], ◌∷◌}
use Rattle.kernel_copy.specs.Courses.{CourseTold}
use Rattle.branch_workers.specs.Layout.{layout}
use Rattle.rewind_desk.specs.Sure.{sure}
use Rattle.session_desk.specs.Session.{SessionTold, last_event_in}
use Rattle.session_desk.specs.Anchors.{anchor_of, shared_count}
use Rattle.session_desk.specs.declared.act.Act.{Act}
use Rattle.session_desk.specs.declared.act.Act.TheVariants.{Fork, Undo, Edit as Edited, Rewind, Close, Values}
use Rattle.session_desk.specs.Acting.{number_in, after_act}

-- how many events the nearest kept state of a branch has up to an event number
abbrev pub Kept : Type 0
Kept = ℕ → ℕ → ℕ

-- the events of a branch's run, so many in all, that its nearest kept state leaves to run
abbrev pub left_to_run : Kept → SessionTold → ℕ → ℕ → ℕ
left_to_run kept s b count = count - kept (anchor_of s b) (shared_count s b count)

-- the steps to the state that an act asks for
abbrev pub reached_for : Kept → SessionTold → Act → ℕ
reached_for kept s (Fork name parent at edits) = 0
reached_for kept s Undo = 0
reached_for kept s (Edited name edits) = 0
reached_for kept s (Rewind name event) = left_to_run kept s (number_in s name) event
reached_for kept s (Close name) = left_to_run kept s (number_in s name) (last_event_in s (number_in s name))
reached_for kept s (Values name) = 0

-- the steps from the opening on that an act asks for: values are told of a whole full run
abbrev pub run_for : SessionTold → Act → ℕ
run_for s (Fork name parent at edits) = 0
run_for s Undo = 0
run_for s (Edited name edits) = 0
run_for s (Rewind name event) = 0
run_for s (Close name) = 0
run_for s (Values name) = last_event_in s (number_in s name)

-- the sum over acts, each in the tree as the acts before it leave it
abbrev pub sum_in_turn : (SessionTold → Act → ℕ) → SessionTold → List Act → ℕ
sum_in_turn count s [] = 0
sum_in_turn count s (a ∷ acts) = count s a + sum_in_turn count (after_act s a) acts

-- the steps of all acts from the opening on
abbrev pub all_run : SessionTold → List Act → ℕ
all_run s acts = sum_in_turn run_for s acts

-- those of all acts from kept states on
abbrev pub all_reached : Kept → SessionTold → List Act → ℕ
all_reached kept s acts = sum_in_turn (reached_for kept) s acts

-- The states that are sure to be kept of a course, where a copy is kept each so many events and so many places are there for the
-- states between the ends of segments.
abbrev pub surely_kept : CourseTold → ℕ → ℕ → Kept
surely_kept c stride places b e = sure c (layout c.plan stride places) b e
