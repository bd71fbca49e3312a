use Rattle.std.proofs.Common.{refl}
use Rattle.std.specs.Fmt.{digits}
use Rattle.abides_run.proofs.worked.lines_of_refused_crosses.Goals as goal

pub returns : goal.returns
unfolding digits
returns c = record { no_stock = refl; bad_orders = refl }
