use Rattle.std.proofs.Common.{rules}
use Rattle.kernel_core.proofs.kernel.Kernel.copy.Goals as goal

pub returns : goal.returns
returns c = search rules
