use Rattle.market_floor.proofs.Openings.{group-of_agent}
use Rattle.market_floor.proofs.opening_laws.agents_have_groups.Goals as goal

pub returns : goal.returns
returns c = group-of_agent
