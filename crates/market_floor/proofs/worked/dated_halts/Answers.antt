use Rattle.std.proofs.Common.{refl}
use Rattle.market_floor.specs.Ruled.{ruled}
use Rattle.market_floor.proofs.worked.dated_halts.Goals as goal

pub returns : goal.returns
unfolding ruled
returns c = record { before = refl; at = refl; told = refl; once = refl; made = refl; count = refl; counted = refl }
