use Rattle.std.proofs.Common.{refl}
use Rattle.bundle_frames.specs.Frames.{header_frame, branch_frame, event_frame, edit_frame, counts_frame, stock_frame, order_frame, agent_frame, end_frame}
use Rattle.bundle_frames.specs.Wires.{position_bytes}
use Rattle.bundle_frames.proofs.worked.one_of_each.Goals as goal

pub returns : goal.returns
unfolding header_frame branch_frame event_frame edit_frame counts_frame stock_frame order_frame agent_frame end_frame position_bytes
returns c = record {
  header = refl;
  branch = refl;
  wake = refl;
  enter = refl;
  cancel = refl;
  answer = refl;
  ask = refl;
  quote = refl;
  edit = refl;
  counts = refl;
  stock = refl;
  order = refl;
  hidden_order = refl;
  agent = refl;
  end = refl;
}
