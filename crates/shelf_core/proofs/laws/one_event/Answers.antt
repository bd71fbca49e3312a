use Rattle.shelf_core.proofs.Steps.{after_orderly}
use Rattle.shelf_core.proofs.Kept.{after_keeps}
use Rattle.shelf_core.proofs.laws.one_event.Goals as goal

pub returns-clause-orderly : goal.returns-clause-orderly
returns-clause-orderly c = after_orderly

pub returns-clause-keeps : goal.returns-clause-keeps
returns-clause-keeps c = after_keeps
