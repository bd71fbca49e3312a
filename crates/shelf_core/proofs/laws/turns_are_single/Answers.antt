use Rattle.shelf_core.proofs.Staying.{began_once, turn_is_spent}
use Rattle.shelf_core.proofs.laws.turns_are_single.Goals as goal

pub returns-clause-once : goal.returns-clause-once
returns-clause-once c = began_once

pub returns-clause-spent : goal.returns-clause-spent
returns-clause-spent c = turn_is_spent
