use Rattle.rewind_desk.proofs.Strides.{sure-held}
use Rattle.rewind_desk.proofs.laws.sure_states_are_held.Goals as goal

pub returns : goal.returns
returns c = sure-held
