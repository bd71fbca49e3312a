use Rattle.shelf_core.proofs.Facts.{missed_same, missed_elsewhere, missed_known}
use Rattle.shelf_core.proofs.laws.misses_tell.Goals as goal

pub returns-clause-same : goal.returns-clause-same
returns-clause-same c = missed_same

pub returns-clause-elsewhere : goal.returns-clause-elsewhere
returns-clause-elsewhere c = missed_elsewhere

pub returns-clause-known : goal.returns-clause-known
returns-clause-known c = missed_known
