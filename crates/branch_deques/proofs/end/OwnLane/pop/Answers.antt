use Rattle.branch_deques.proofs.Moves.{takes}
use Rattle.branch_deques.proofs.end.OwnLane.pop.Goals as goal

pub pop_as-requires-clause-fifo : goal.pop_as-requires-clause-fifo
pop_as-requires-clause-fifo g c _ = takes _ _ _
