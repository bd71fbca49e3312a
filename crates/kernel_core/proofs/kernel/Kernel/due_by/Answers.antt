use Rattle.std.proofs.Common.{rules}
use Rattle.kernel_core.proofs.kernel.Kernel.due_by.Goals as goal

pub returns-in-Ok : goal.returns-in-Ok
returns-in-Ok c = search rules
