use Rattle.shelf_core.proofs.Settled.{settled}
use Rattle.shelf_core.proofs.laws.all_are_back.Goals as goal

pub returns : goal.returns
returns c = settled
