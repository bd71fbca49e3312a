use Rattle.agent_shell.proofs.Sent.{decided-sent}
use Rattle.agent_shell.proofs.laws.sendings_are_few_and_well_formed.Goals as goal

pub returns : goal.returns
returns c = decided-sent
