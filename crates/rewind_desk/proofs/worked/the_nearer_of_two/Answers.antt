use Rattle.std.proofs.Common.{refl}
use Rattle.rewind_desk.proofs.worked.the_nearer_of_two.Goals as goal

pub returns : goal.returns
returns c = record { more = refl; same = refl; alone = refl }
