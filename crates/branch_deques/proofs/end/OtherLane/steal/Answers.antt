use Rattle.branch_deques.proofs.Moves.{takes}
use Rattle.branch_deques.proofs.end.OtherLane.steal.Goals as goal

pub steal_as-requires-clause-takes : goal.steal_as-requires-clause-takes
steal_as-requires-clause-takes g c = takes _ _ _
