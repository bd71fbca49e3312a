-- The stocks and the times of feed messages.
use Rattle.std.specs.Prelude.{◌≡◌, ◌-◌, ℕ, Option, Some, None, IfSome}
use Rattle.market_types.specs.declared.feed.Feed.{Feed}
use Rattle.market_types.specs.declared.feed.What.{What}
use Rattle.market_types.specs.declared.feed.What.TheVariants as what
use Rattle.market_types.specs.declared.order.Symbol.{Symbol}
use Rattle.exchange_agent.specs.Runs.{Act, message, change}
use Rattle.exchange_agent.specs.State.{State, stock_at}

-- the symbol that a message gives, if its kind has one
abbrev pub symbol_in : What → Option Symbol
symbol_in (what.Directory stock category financial lot lots_only share_class sub_type authenticity short_sale ipo tier etp leverage inverse) = Some stock
symbol_in (what.Trading stock state reserved reason) = Some stock
symbol_in (what.Add reference side shares stock price) = Some stock
symbol_in (what.Trade reference side shares stock price number) = Some stock
symbol_in (what.Cross shares stock price number kind) = Some stock
symbol_in _ = None

-- a message that gives a symbol gives that of the stock whose number and one are its locate
abbrev pub NamesItsStock : State → Feed → Type 0
NamesItsStock s m = IfSome (symbol_in m.what) (λ (symbol : Symbol). symbol ≡ (stock_at s (m.locate - 1)).symbol)

-- when a message or a change comes
abbrev pub time_of : Act → ℕ
time_of (message time from b) = time
time_of (change time stock c) = time
