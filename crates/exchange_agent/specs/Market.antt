-- The market: what the exchange does with a message.
use Rattle.std.specs.Prelude.{◌<◌, ℕ, pos, [], ◌∷◌, Option, Some, None}
use Rattle.market_types.specs.declared.message.Quote.{Quote}
use Rattle.market_types.specs.declared.message.Body.{Body}
use Rattle.market_types.specs.declared.message.Body.TheVariants as body
use Rattle.market_types.specs.declared.order.Inbound.TheVariants as inbound
use Rattle.market_types.specs.declared.order.Side.TheVariants.{Buy, Sell}
use Rattle.price_time_book.specs.declared.resting.Best.{Best}
use Rattle.price_time_book.specs.Next.{best_at}
use Rattle.exchange_agent.specs.Cancel.{cancel_of, found_from}
use Rattle.exchange_agent.specs.Enter.{entered}
use Rattle.exchange_agent.specs.Outcome.{Outcome, silently}
use Rattle.exchange_agent.specs.State.{State, Stock, stock_at}

-- the best price of a side's shown orders and their open shares; 0 and 0 where none is shown
abbrev pub best_or_none_of : Option Best → Best
best_or_none_of None = record { price = 0; shares = 0 }
best_or_none_of (Some b) = b

abbrev pub quote_of : ℕ → Stock → Quote
quote_of k x = record {
  stock = k;
  state = x.trading;
  bid = (best_or_none_of (best_at Buy x.book)).price;
  bid_shares = (best_or_none_of (best_at Buy x.book)).shares;
  ask = (best_or_none_of (best_at Sell x.book)).price;
  ask_shares = (best_or_none_of (best_at Sell x.book)).shares;
  last = x.tally.last;
}

-- an Ask for a stock is answered by a Quote
abbrev pub asked : State → ℕ → ℕ → Outcome
asked s agent k = record {
  state = s;
  replies = record { to = agent; body = body.Quote (quote_of k (stock_at s k)) } ∷ [];
  feed = [];
  fee = pos 0;
}

-- what comes of a message from a trader that is handled at a time
abbrev pub market : State → ℕ → ℕ → Body → Outcome
market s time agent (body.Order (inbound.Enter e)) = entered s time agent e
market s time agent (body.Order (inbound.Cancel c)) = cancel_of s time agent c (found_from 0 agent c.token s.stocks)
market s time agent (body.Ask k) = asked s agent k
market s time agent body.Wake = silently s
market s time agent (body.Answer r) = silently s
market s time agent (body.Quote q) = silently s

-- an Ask is for one of so many stocks
abbrev pub IsAskable : ℕ → Body → Type 0
IsAskable stocks (body.Ask k) = k < stocks
IsAskable stocks (body.Order i) = Unit {0}
IsAskable stocks body.Wake = Unit {0}
IsAskable stocks (body.Answer r) = Unit {0}
IsAskable stocks (body.Quote q) = Unit {0}
