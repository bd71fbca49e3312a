use Rattle.std.proofs.Common.{refl}
use Rattle.std.specs.Fmt.{digits}
use Rattle.kernel_core.specs.Step.{event_of}
use Rattle.kernel_core.specs.Until.{advanced}
use Rattle.kernel_copy.specs.Full.{begun, full}
use Rattle.kernel_copy.specs.Segmentwise.{segment_end}
use Rattle.bundle_frames.specs.Frames.{message_frame, event_frame, edit_frame, counts_frame, stock_frame, order_frame, agent_frame, branch_frame, header_frame, end_frame}
use Rattle.bundle_frames.specs.Wires.{position_bytes}
use Rattle.trace_bundle.specs.Report.{big_lines_of, bundle_size, byte_sum}
use Rattle.trace_bundle.proofs.large_worked.lines_of_a_quiet_course.Goals as goal

pub returns : goal.returns
unfolding big_lines_of bundle_size byte_sum begun full segment_end advanced event_of message_frame event_frame edit_frame counts_frame stock_frame order_frame agent_frame branch_frame header_frame end_frame position_bytes digits
returns c = refl
