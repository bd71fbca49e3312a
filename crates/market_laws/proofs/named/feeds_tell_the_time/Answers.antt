use Rattle.market_laws.proofs.Names.{told-in-time}
use Rattle.market_laws.proofs.named.feeds_tell_the_time.Goals as goal

pub returns : goal.returns
returns c = told-in-time
