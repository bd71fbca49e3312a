use Rattle.std.proofs.Common.{refl}
use Rattle.rewind_desk.proofs.Lefts.{left-least, left-most}
use Rattle.rewind_desk.proofs.left.left_states_lie_between.Goals as goal

pub returns : goal.returns
returns c = record { least = left-least; most = left-most; held = λ shelf b e. refl }
