use Rattle.std.proofs.Common.{refl}
use Rattle.market_rules.specs.Nearest.{allowed_among, greatest_allowed}
use Rattle.quoter_agents.proofs.worked.maker.Goals as goal

pub returns : goal.returns
unfolding allowed_among greatest_allowed
returns c = record { value = refl; last = refl; middle = refl; below_zero = refl; takes_back = refl }
