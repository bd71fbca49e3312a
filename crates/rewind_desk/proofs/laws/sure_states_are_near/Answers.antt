use Rattle.rewind_desk.proofs.Strides.{sure-near}
use Rattle.rewind_desk.proofs.laws.sure_states_are_near.Goals as goal

pub returns : goal.returns
returns c = sure-near
