use Rattle.std.proofs.Common.{refl}
use Rattle.reopening_desk.specs.Frames.{cross_frame, part_frame}
use Rattle.reopening_desk.proofs.worked.one_of_each.Goals as goal

pub returns : goal.returns
unfolding cross_frame part_frame
returns c = record { part = refl; cross = refl }
