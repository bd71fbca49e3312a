use Rattle.std.proofs.Common.{refl}
use Rattle.bundle_frames.specs.Frames.{end_frame, message_frame}
use Rattle.reopening_desk.specs.Frames.{cross_frame, part_frame}
use Rattle.reopening_desk.specs.Reopening.{reopening_frames}
use Rattle.reopening_desk.proofs.worked.reopenings.Goals as goal

pub returns : goal.returns
unfolding end_frame message_frame cross_frame part_frame reopening_frames
returns c = record { alone = refl; crossed = refl }
