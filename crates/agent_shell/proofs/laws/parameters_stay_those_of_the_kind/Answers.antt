use Rattle.agent_shell.proofs.Named.{still-own}
use Rattle.agent_shell.proofs.laws.parameters_stay_those_of_the_kind.Goals as goal

pub returns : goal.returns
returns c = still-own
