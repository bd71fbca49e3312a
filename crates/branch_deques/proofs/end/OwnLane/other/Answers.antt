use Rattle.branch_deques.proofs.Moves.{admits}
use Rattle.branch_deques.proofs.end.OwnLane.other.Goals as goal

pub pass-pass-requires : goal.pass-pass-requires
pass-pass-requires g c = admits _
