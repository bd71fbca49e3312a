use Rattle.agent_shell.proofs.Few.{noise-shares}
use Rattle.agent_shell.proofs.laws.noise_shares_are_within_its_size.Goals as goal

pub returns : goal.returns
returns c = noise-shares
