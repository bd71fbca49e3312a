use Rattle.shelf_core.proofs.Facts.{refused_same, refused_elsewhere, refused_own, refused_sole}
use Rattle.shelf_core.proofs.laws.refusals_tell.Goals as goal

pub returns-clause-same : goal.returns-clause-same
returns-clause-same c = refused_same

pub returns-clause-elsewhere : goal.returns-clause-elsewhere
returns-clause-elsewhere c = refused_elsewhere

pub returns-clause-own : goal.returns-clause-own
returns-clause-own c = refused_own

pub returns-clause-sole : goal.returns-clause-sole
returns-clause-sole c = refused_sole
