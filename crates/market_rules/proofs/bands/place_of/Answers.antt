use Rattle.market_rules.proofs.Tables.{table}
use Rattle.market_rules.proofs.bands.place_of.Goals as goal

pub returns-clause-tick : goal.returns-clause-tick
returns-clause-tick c = λ d. (table c.args.bands.now d c.requires).ticks c.loop-i.at c.loop-i.invariant.within
