use Rattle.std.proofs.Common.{refl}
use Rattle.audit_desk.proofs.trip_worked.a_moved_halt.Goals as goal

pub returns : goal.returns
returns c = refl
