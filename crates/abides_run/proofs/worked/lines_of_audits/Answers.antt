use Rattle.std.proofs.Common.{refl}
use Rattle.std.specs.Fmt.{digits}
use Rattle.abides_run.proofs.worked.lines_of_audits.Goals as goal

pub returns : goal.returns
unfolding digits
returns c = record { passed = refl; bad_bundle = refl; audit_failed = refl }
