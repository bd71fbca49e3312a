use Rattle.session_desk.proofs.Nearer.{all-less}
use Rattle.session_desk.proofs.carried_laws.nearer_states_leave_less.Goals as goal

pub returns : goal.returns
returns c = all-less
