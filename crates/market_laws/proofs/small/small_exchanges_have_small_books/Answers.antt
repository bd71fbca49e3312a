use Rattle.market_laws.proofs.SmallRuns.{small-book, small-stock}
use Rattle.market_laws.proofs.small.small_exchanges_have_small_books.Goals as goal

pub returns : goal.returns
returns c = record { stock = small-stock; few = small-book }
