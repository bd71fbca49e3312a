-- The closing of a state: its counters, stocks, live orders and agents.
use Rattle.std.specs.Prelude.{ℕ, zero, suc, ◌+◌, ◌-◌, pos, false, ℤ, List, [], ◌∷◌, ◌++◌, length, map, replicate, slice_index, slice_index_or, Option, Some, None}
use Rattle.market_types.specs.declared.account.TraderTold.{TraderTold}
use Rattle.market_types.specs.declared.entry.End.{End}
use Rattle.market_types.specs.declared.entry.End.TheVariants.{Quiet, Closed, EventLimit, QueueFull}
use Rattle.bundle_frames.specs.declared.closing.Closing.{Closing}
use Rattle.bundle_frames.specs.declared.closing.ClosingAgent.{ClosingAgent}
use Rattle.bundle_frames.specs.declared.closing.ClosingCounts.{ClosingCounts}
use Rattle.bundle_frames.specs.declared.closing.ClosingOrder.{ClosingOrder}
use Rattle.bundle_frames.specs.declared.closing.ClosingStock.{ClosingStock}
use Rattle.price_time_book.specs.declared.resting.Resting.{Resting}
use Rattle.exchange_agent.specs.State.{State as Exchange, Stock, stock_at}
use Rattle.agent_shell.specs.Trader.{told_of}
use Rattle.market_floor.specs.Party.{PartyState}
use Rattle.market_floor.specs.declared.opening.Opening.{Opening}
use Rattle.market_floor.specs.Floor.{offset_at, party_at}
use Rattle.kernel_core.specs.State.{State}
use Rattle.kernel_core.specs.Step.{end_of}

-- `Q` no message waits, `C` the market is closed, `L` all events stand, `F` the queue was full, `-` not ended
abbrev pub end_letter_of : Option End → ℕ
end_letter_of None = 45
end_letter_of (Some Quiet) = 81
end_letter_of (Some Closed) = 67
end_letter_of (Some EventLimit) = 76
end_letter_of (Some QueueFull) = 70

-- the counters of the kernel and of the exchange
abbrev pub counts_of : Opening → State → ClosingCounts
counts_of o s = record {
  end = end_letter_of (end_of o s);
  events = s.events;
  time = s.time;
  next_seq = s.post.next_seq;
  waiting = length s.post.waiting;
  dropped = s.post.dropped;
  enters = s.floor.exchange.counts.enters;
  cancels = s.floor.exchange.counts.cancels;
  orders = s.floor.exchange.counts.orders;
  matches = s.floor.exchange.counts.matches;
}

-- a stock of a number, with this offset of its value
abbrev pub stock_closed : ℕ → ℤ → Stock → ClosingStock
stock_closed k offset x = record {
  stock = k;
  state = x.trading;
  last = x.tally.last;
  matched = x.tally.matched;
  fees = x.tally.taken;
  offset = offset;
  live = length x.book;
}

-- the first n stocks in order
abbrev pub stocks_closed : State → ℕ → List ClosingStock
stocks_closed s zero = []
stocks_closed s (suc n) = stocks_closed s n ++ stock_closed n (offset_at s.floor n) (stock_at s.floor.exchange n) ∷ []

-- an order that rests in the book of the stock of a number
abbrev pub order_closed : ℕ → Resting → ClosingOrder
order_closed k r = record {
  reference = r.reference;
  agent = r.agent;
  token = r.token;
  side = r.side;
  intended = r.intended;
  left = r.left;
  stock = k;
  price = r.price;
  tif = r.tif;
  shown = r.shown;
}

-- the orders of the first n stocks, each stock's in order of their arrival
abbrev pub orders_closed : Exchange → ℕ → List ClosingOrder
orders_closed x zero = []
orders_closed x (suc n) = orders_closed x n ++ map (order_closed n) (stock_at x n).book

-- a trader's settled positions in the first n stocks
abbrev pub positions_closed : Exchange → ℕ → ℕ → List ℤ
positions_closed x agent zero = []
positions_closed x agent (suc n) = positions_closed x agent n ++ slice_index_or (stock_at x n).tally.positions (agent - 1) (pos 0) ∷ []

-- The exchange is agent 0. It has nothing but its own time.
abbrev pub exchange_closed : State → ClosingAgent
exchange_closed s = record {
  agent = 0;
  silenced = false;
  time = slice_index s.own 0;
  tokens = 0;
  draws = 0;
  cash = pos 0;
  own_cash = pos 0;
  own_position = pos 0;
  live = 0;
  quotes = 0;
  positions = replicate (length s.floor.exchange.stocks) (pos 0);
}

-- a trader with what it tells of itself, and its settled cash and positions
abbrev pub trader_closed : State → ℕ → PartyState → TraderTold → ClosingAgent
trader_closed s agent p t = record {
  agent = agent;
  silenced = p.silent;
  time = slice_index s.own agent;
  tokens = t.tokens;
  draws = t.draws;
  cash = slice_index_or s.floor.exchange.cash (agent - 1) (pos 0);
  own_cash = t.account.cash;
  own_position = t.account.position;
  live = t.live;
  quotes = t.quotes;
  positions = positions_closed s.floor.exchange agent (length s.floor.exchange.stocks);
}

-- the exchange and the first n traders
abbrev pub agents_closed : State → ℕ → List ClosingAgent
agents_closed s zero = exchange_closed s ∷ []
agents_closed s (suc n) =
    agents_closed s n ++ trader_closed s (n + 1) (party_at s.floor (n + 1)) (told_of (party_at s.floor (n + 1)).trader) ∷ []

-- the closing of a state
abbrev pub closing_at : Opening → State → Closing
closing_at o s = record {
  counts = counts_of o s;
  stocks = stocks_closed s (length s.floor.exchange.stocks);
  orders = orders_closed s.floor.exchange (length s.floor.exchange.stocks);
  agents = agents_closed s (length s.floor.parties);
}
