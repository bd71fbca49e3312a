-- The exchange's state as plain data.
use Rattle.std.specs.Prelude.{ℕ, ℤ, pos, Bool, List, [], length, slice_index_or, slice_set, sum_by, position, Option, bytes_eq}
use Rattle.market_types.specs.declared.order.Symbol.{Symbol}
use Rattle.market_rules.specs.declared.bands.Band.{Band}
use Rattle.market_rules.specs.declared.fees.FeeTable.{FeeTable}
use Rattle.price_time_book.specs.declared.resting.Resting.{Resting}
use Rattle.exchange_agent.specs.declared.told.Counts.{Counts}
use Rattle.exchange_agent.specs.declared.pair.Pair.{Pair}

-- What the matches of a stock have come to: the price of the last match, the shares matched, the fees taken, and the
-- settled position of each trader in order.
pub record Tally : Type 0 where
  pub last : ℕ
  pub matched : ℕ
  pub taken : ℤ
  pub positions : List ℤ

-- One stock: its symbol, its rules in force, its trading state, its orders in order of arrival, and its tally.
pub record Stock : Type 0 where
  pub symbol : Symbol
  pub bands : List Band
  pub fees : FeeTable
  pub trading : ℕ
  pub book : List Resting
  pub tally : Tally

-- The stocks, the settled cash of each trader in order, the remembered pairs of agent and token in order, the counts of
-- orders, matches, ignored enters and ignored cancels, and whether hidden orders are taken, which never changes.
pub record State : Type 0 where
  pub stocks : List Stock
  pub cash : List ℤ
  pub pairs : List Pair
  pub counts : Counts
  pub hidden : Bool

-- the letters of the trading states: 'T' and 'H'
abbrev pub trades : ℕ
trades = 84

abbrev pub stands_still : ℕ
stands_still = 72

abbrev pub no_tally : Tally
no_tally = record { last = 0; matched = 0; taken = pos 0; positions = [] }

abbrev pub no_stock : Stock
no_stock = record {
  symbol = record { 0 = [] };
  bands = [];
  fees = record { add = pos 0; take = pos 0 };
  trading = 0;
  book = [];
  tally = no_tally;
}

-- the stock of a number
abbrev pub stock_at : State → ℕ → Stock
stock_at s k = slice_index_or s.stocks k no_stock

-- the state in which the stock of a number has become this one
abbrev pub with_stock : State → ℕ → Stock → State
with_stock s k stock = record s { stocks = slice_set s.stocks k stock }

-- the number of the stock with a symbol
abbrev pub stock_number_of : Symbol → List Stock → Option ℕ
stock_number_of symbol stocks = position (λ k. bytes_eq k.symbol.0 symbol.0) stocks

-- how many orders rest over all stocks
abbrev pub resting_over : List Stock → ℕ
resting_over stocks = sum_by (λ k. length k.book) stocks
