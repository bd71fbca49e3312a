use Rattle.market_floor.proofs.Openings.{value-from_start}
use Rattle.market_floor.proofs.opening_laws.stocks_have_values.Goals as goal

pub returns : goal.returns
returns c = value-from_start
