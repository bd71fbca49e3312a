use Rattle.rewind_desk.proofs.Strides.{best-near}
use Rattle.rewind_desk.proofs.laws.rewinds_stay_within_the_stride.Goals as goal

pub returns : goal.returns
returns c = best-near
