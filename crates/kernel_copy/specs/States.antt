-- The frames of a state: its closing, and the messages that wait.
use Rattle.std.specs.Prelude.{ℕ, List, ◌++◌}
use Rattle.bundle_frames.specs.Frames.{closing_frames, waiting_frames}
use Rattle.event_queue.specs.InOrder.{in_order}
use Rattle.market_floor.specs.declared.opening.Opening.{Opening}
use Rattle.kernel_copy.specs.Closing.{closing_at}
use Rattle.kernel_core.specs.State.{State}

-- a state's closing, and then each message that waits, in order of time and, at one time, of number
abbrev pub state_frames_of : Opening → State → List ℕ
state_frames_of o s = closing_frames (closing_at o s) ++ waiting_frames (in_order s.post.waiting)
