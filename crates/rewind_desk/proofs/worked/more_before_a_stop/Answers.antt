use Rattle.std.proofs.Common.{refl}
use Rattle.rewind_desk.proofs.worked.more_before_a_stop.Goals as goal

pub returns : goal.returns
returns c = record { number = refl; stands = refl; time = refl; early = refl; quiet = refl }
