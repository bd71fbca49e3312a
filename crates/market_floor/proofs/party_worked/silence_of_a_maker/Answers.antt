use Rattle.std.proofs.Common.{refl}
use Rattle.market_rules.specs.Nearest.{allowed_among, greatest_allowed}
use Rattle.market_floor.proofs.party_worked.silence_of_a_maker.Goals as goal

pub returns-clause-orders : goal.returns-clause-orders
unfolding allowed_among greatest_allowed
returns-clause-orders c = refl
