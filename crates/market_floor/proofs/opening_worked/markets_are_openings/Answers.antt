use Rattle.market_floor.proofs.Markets.{market-opening}
use Rattle.market_floor.proofs.opening_worked.markets_are_openings.Goals as goal

pub returns : goal.returns
returns c = market-opening
