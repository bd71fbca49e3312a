use Rattle.market_laws.proofs.Names.{all-named}
use Rattle.market_laws.proofs.named.feeds_name_their_stocks.Goals as goal

pub returns : goal.returns
returns c = all-named
