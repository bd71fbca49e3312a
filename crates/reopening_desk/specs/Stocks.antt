-- Stocks by their symbols.
use Rattle.std.specs.Prelude.{ℕ, Bool, List, Option, None, bytes_eq, option_map, position, Result, Ok, Err}
use Rattle.market_types.specs.declared.order.Symbol.{Symbol}
use Rattle.market_types.specs.declared.error.TypeError.{TypeError}
use Rattle.market_types.specs.Readers.{symbol_of}
use Rattle.exchange_agent.specs.declared.told.StockRules.{StockRules}
use Rattle.reopening_desk.specs.declared.stock.StockNamed.{StockNamed}

-- a stock has this symbol
abbrev pub has_symbol : Symbol → StockRules → Bool
has_symbol symbol s = bytes_eq s.symbol.0 symbol.0

-- the first stock of a symbol, if there is a symbol
abbrev pub stock_with : List StockRules → Result Symbol TypeError → Option StockNamed
stock_with stocks (Ok symbol) = option_map (λ (k : ℕ). record { number = k; symbol = symbol }) (position (has_symbol symbol) stocks)
stock_with stocks (Err e) = None

-- the first stock of a symbol that is written with no spaces behind it
abbrev pub stock_of : List StockRules → List ℕ → Option StockNamed
stock_of stocks text = stock_with stocks (symbol_of text)
