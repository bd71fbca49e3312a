use Rattle.shelf_core.proofs.Facts.{sees_no_less}
use Rattle.shelf_core.proofs.laws.done_is_kept.Goals as goal

pub returns : goal.returns
returns c = sees_no_less
