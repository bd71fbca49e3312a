-- What the acts of a script are answered.
use Rattle.std.specs.Prelude.{ℕ, ℤ, List, [], ◌∷◌, ◌++◌, length, map}
use Rattle.std.specs.Int.{cast_unsigned, w128}
use Rattle.std.specs.List.{flat_map}
use Rattle.wire_fields.specs.Numbers.{number_bytes}
use Rattle.itch_codec.specs.Frames.{framed}
use Rattle.bundle_frames.specs.Frames.{branch_frame, closing_frames, end_frame}
use Rattle.branch_tree.specs.Plan.{branch_at}
use Rattle.kernel_copy.specs.Closing.{closing_at}
use Rattle.kernel_copy.specs.States.{state_frames_of}
use Rattle.trace_bundle.specs.Bundle.{head_of, parent_written}
use Rattle.probe_desk.specs.Probe.{Meaning, column_of}
use Rattle.session_desk.specs.Session.{SessionTold, standing, full_in, full_run_in}
use Rattle.session_desk.specs.declared.act.Act.{Act}
use Rattle.session_desk.specs.declared.act.Act.TheVariants.{Fork, Undo, Edit as Edited, Rewind, Close, Values}
use Rattle.session_desk.specs.Acting.{number_in, after_act}

-- `v`, then a probe's value in sixteen bytes
unfoldable pub value_frame : ℤ → List ℕ
value_frame z = framed (118 ∷ number_bytes 16 (cast_unsigned w128 z))

-- A branch's frame with the event as its stop, and its state after so many events, as a rewind of the study that the tree makes
-- writes them.
abbrev pub rewound_frames : SessionTold → ℕ → ℕ → List ℕ
rewound_frames s b e =
    branch_frame b (parent_written (standing s) b) e (branch_at s.branches b).name
    ++ state_frames_of s.course.opening (full_in s b e).state

-- a branch's frame and the closing of its full run, as the bundle of the study that the tree makes has them
abbrev pub closed_frames : SessionTold → ℕ → List ℕ
closed_frames s b = head_of (standing s) b ++ closing_frames (closing_at s.course.opening (full_run_in s b).state)

-- what each probe of these meanings says of a branch's full run, which it sees from the opening on
abbrev pub values_in : List Meaning → SessionTold → ℕ → List ℤ
values_in meanings s b = map (λ (m : Meaning). column_of m (full_run_in s b).entries) meanings

-- a frame for each of them
abbrev pub value_frames : List Meaning → SessionTold → ℕ → List ℕ
value_frames meanings s b = flat_map value_frame (values_in meanings s b)

-- What an act is answered in the tree as it stands. An act that changes the tree is answered nothing.
abbrev pub answer_of : List Meaning → SessionTold → Act → List ℕ
answer_of meanings s (Fork name parent at edits) = []
answer_of meanings s Undo = []
answer_of meanings s (Edited name edits) = []
answer_of meanings s (Rewind name event) = rewound_frames s (number_in s name) event
answer_of meanings s (Close name) = closed_frames s (number_in s name)
answer_of meanings s (Values name) = value_frames meanings s (number_in s name)

-- the answers of acts, one after another, each over the tree as the acts before it leave it
abbrev pub answers_of : List Meaning → SessionTold → List Act → List ℕ
answers_of meanings s [] = []
answers_of meanings s (a ∷ acts) = answer_of meanings s a ++ answers_of meanings (after_act s a) acts

-- these answers, and how many acts there were
unfoldable pub session_bytes : List Meaning → SessionTold → List Act → List ℕ
session_bytes meanings s acts = answers_of meanings s acts ++ end_frame (length acts)
