use Rattle.std.proofs.Common.{refl}
use Rattle.rewind_desk.proofs.worked.the_most_of_three.Goals as goal

pub returns : goal.returns
returns c = record { seven = refl; one = refl }
