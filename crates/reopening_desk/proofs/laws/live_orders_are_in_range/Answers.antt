use Rattle.exchange_agent.specs.State.{stock_at}
use Rattle.reopening_desk.proofs.Interests.{are-resting}
use Rattle.reopening_desk.proofs.laws.live_orders_are_in_range.Goals as goal

pub returns : goal.returns
returns c = λ traders messages s k small there.
    let books = c.small_exchanges_have_small_books.ensures in
    are-resting traders s.counts.orders (stock_at s k) (books.stock traders messages s k small there) (books.few traders messages s k small there)
