-- The exchange at the opening, and what its readers tell.
use Rattle.std.specs.Prelude.{◌≤◌, ◌≢◌, ℕ, ℤ, pos, Bool, List, [], map, length, replicate, AllPairs}
use Rattle.exchange_agent.specs.declared.told.StockRules.{StockRules}
use Rattle.exchange_agent.specs.declared.told.StockTold.{StockTold}
use Rattle.exchange_agent.specs.State.{State, Stock, trades}

-- a stock before its first order, with so many traders
abbrev pub listed : ℕ → StockRules → Stock
listed traders r = record {
  symbol = r.symbol;
  bands = r.ticks;
  fees = r.fees;
  trading = trades;
  book = [];
  tally = record { last = 0; matched = 0; taken = pos 0; positions = replicate traders (pos 0) };
}

-- the exchange of these stocks, where each trader in order has so much cash, and hidden orders are taken or not
abbrev pub opened : List StockRules → List ℤ → Bool → State
opened rules cash hidden = record {
  stocks = map (listed (length cash)) rules;
  cash = cash;
  pairs = [];
  counts = record { orders = 0; matches = 0; enters = 0; cancels = 0 };
  hidden = hidden;
}

abbrev pub told_of : Stock → StockTold
told_of k = record {
  state = k.trading;
  last = k.tally.last;
  matched = k.tally.matched;
  fees = k.tally.taken;
  live = length k.book;
}

-- What an exchange can be opened with.
pub record IsOpening (rules : List StockRules) (cash : List ℤ) : Type 0 where
  pub some : 1 ≤ length rules
  pub few : length rules ≤ 16
  pub distinct : AllPairs (λ (a b : StockRules). a.symbol ≢ b.symbol) rules
  pub traders : length cash ≤ 511
