-- The plain data of the exchange's inside.
use Rattle.std.specs.Prelude.{ℕ, ℤ, Bool, List, map}
use Rattle.exchange_agent.specs.declared.listing.Listing.{Listing}
use Rattle.exchange_agent.specs.declared.pair.Pair.{Pair}
use Rattle.exchange_agent.specs.declared.told.Counts.{Counts}
use Rattle.exchange_agent.specs.declared.handled.Handled.{Handled}
use Rattle.exchange_agent.specs.declared.trading.Trading.{Trading}
use Rattle.exchange_agent.specs.declared.trading.Trading.TheVariants.{Open, Halted}
use Rattle.exchange_agent.specs.Settle.{Way}
use Rattle.exchange_agent.specs.State.{State, Stock, trades, stands_still}

-- the letter of a trading state
abbrev pub trading_letter : Trading → ℕ
trading_letter Open = trades
trading_letter Halted = stands_still

abbrev pub stock_of : Listing → Stock
stock_of k = record {
  symbol = k.symbol;
  bands = k.ticks;
  fees = k.fees;
  trading = trading_letter k.trading;
  book = k.book.list;
  tally = record { last = k.last; matched = k.matched; taken = k.taken; positions = k.positions.items };
}

abbrev pub state_of : List Listing → List ℤ → List Pair → Counts → Bool → State
state_of stocks cash pairs counts hidden = record { stocks = map stock_of stocks; cash = cash; pairs = pairs; counts = counts; hidden = hidden }

abbrev pub way_at : Listing → List ℤ → ℕ → Handled → Way
way_at k cash matches out = record {
  stock = stock_of k;
  cash = cash;
  matches = matches;
  replies = out.replies.list;
  feed = out.feed.list;
  fee = out.fee;
}
