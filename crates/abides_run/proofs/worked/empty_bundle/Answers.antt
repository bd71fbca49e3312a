use Rattle.std.proofs.Common.{refl}
use Rattle.std.specs.Fmt.{digits}
use Rattle.kernel_core.specs.Step.{event_of}
use Rattle.kernel_core.specs.Until.{advanced}
use Rattle.kernel_copy.specs.Full.{begun, full}
use Rattle.kernel_copy.specs.Segmentwise.{segment_end}
use Rattle.bundle_frames.specs.Frames.{message_frame, event_frame, edit_frame, counts_frame, stock_frame, order_frame, agent_frame, branch_frame, header_frame, end_frame}
use Rattle.bundle_frames.specs.Wires.{position_bytes}
use Rattle.abides_run.specs.Output.{study_bundle, study_events}
use Rattle.abides_run.proofs.worked.empty_bundle.Goals as goal

pub returns : goal.returns
unfolding study_bundle study_events begun full segment_end advanced event_of message_frame event_frame edit_frame counts_frame stock_frame order_frame agent_frame branch_frame header_frame end_frame position_bytes digits
returns c = record { bytes = refl; size = refl; events = refl; counts = refl }
