use Rattle.std.proofs.Common.{refl}
use Rattle.std.specs.Fmt.{digits}
use Rattle.abides_run.proofs.worked.lines_of_refused_rewinds.Goals as goal

pub returns : goal.returns
unfolding digits
returns c = record { no_branch = refl; no_event = refl }
