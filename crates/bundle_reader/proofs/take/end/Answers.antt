use Rattle.std.proofs.Common.{arith}
use Rattle.std.proofs.lemmas.Grind.{common_steps}
use Rattle.bundle_reader.proofs.take.end.Goals as goal

pub returns-then-branches-all : goal.returns-then-branches-all
returns-then-branches-all c = grind (arith, common_steps)
