use Rattle.branch_deques.proofs.Moves.{puts}
use Rattle.branch_deques.proofs.end.OwnLane.push.Goals as goal

pub push_as-requires-clause-pushes : goal.push_as-requires-clause-pushes
push_as-requires-clause-pushes g c = puts _ _ _ _ c.requires.segment
