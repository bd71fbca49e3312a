use Rattle.std.proofs.Common.{refl}
use Rattle.kernel_core.specs.Step.{event_of}
use Rattle.kernel_core.specs.Until.{advanced}
use Rattle.kernel_copy.specs.Full.{begun, full}
use Rattle.kernel_copy.specs.Segmentwise.{segment_end}
use Rattle.bundle_frames.specs.Frames.{message_frame, event_frame, edit_frame, counts_frame, stock_frame, order_frame, agent_frame, branch_frame, header_frame, end_frame}
use Rattle.bundle_frames.specs.Wires.{position_bytes}
use Rattle.trace_bundle.proofs.worked.a_quiet_bundle.Goals as goal

pub returns : goal.returns
unfolding begun full segment_end advanced event_of message_frame event_frame edit_frame counts_frame stock_frame order_frame agent_frame branch_frame header_frame end_frame position_bytes
returns c = record { number = refl; time = refl }
