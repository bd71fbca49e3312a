use Rattle.std.proofs.Common.{refl}
use Rattle.market_floor.specs.Reaction.{reaction}
use Rattle.market_floor.proofs.worked.reactions.Goals as goal

pub returns : goal.returns
unfolding reaction
returns c = record { answer = refl; delay = refl; asks = refl; heard = refl; silent = refl; unheard = refl }
