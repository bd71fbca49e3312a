use Rattle.std.proofs.Common.{arith}
use Rattle.bundle_reader.proofs.Bodied.{wakeup_made}
use Rattle.bundle_reader.proofs.bodies.wakeup.Goals as goal

pub returns-then-bytes-eq1-clause-body : goal.returns-then-bytes-eq1-clause-body
returns-then-bytes-eq1-clause-body c = wakeup_made c.args.bytes.now c.requires (omega arith)
