use Rattle.std.proofs.Common.{arith}
use Rattle.std.proofs.lemmas.Grind.{common_steps}
use Rattle.trace_bundle.proofs.forks.stop_written.Goals as goal

pub returns-in-When : goal.returns-in-When
returns-in-When g c = grind (arith, common_steps)
