use Rattle.std.proofs.Common.{refl}
use Rattle.agent_shell.proofs.worked.parameters.Goals as goal

pub returns : goal.returns
returns c = record { margin = refl; levels = refl; every = refl; delay = refl }
