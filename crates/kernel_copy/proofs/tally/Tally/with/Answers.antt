use Rattle.std.proofs.Common.{arith}
use Rattle.std.proofs.lemmas.Grind.{common_steps}
use Rattle.kernel_copy.proofs.tally.Tally.with.Goals as goal

pub returns : goal.returns
returns c = grind (arith, common_steps)
