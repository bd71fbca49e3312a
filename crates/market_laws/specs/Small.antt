-- How large the numbers of an exchange's orders and of its feed become.
use Rattle.std.specs.Prelude.{◌≡◌, ◌≤◌, ◌⊎◌, ℕ, ◌+◌, ◌*◌, [], ◌∷◌, All}
use Rattle.market_types.specs.Limits.{highest_price}
use Rattle.market_types.specs.declared.feed.Feed.{Feed}
use Rattle.market_types.specs.declared.feed.What.{What}
use Rattle.market_types.specs.declared.feed.What.TheVariants as what
use Rattle.price_time_book.specs.declared.resting.Resting.{Resting}
use Rattle.price_time_book.specs.Orderly.{IsRising}
use Rattle.exchange_agent.specs.State.{State, Stock, resting_over, stands_still, trades}

-- a number from 1 to another
abbrev pub IsUpTo : ℕ → ℕ → Type 0
IsUpTo most n = (1 ≤ n) × (n ≤ most)

-- the most shares of an order: line 6 of the exchange's table refuses an Enter of 0 shares or of more
abbrev pub most_shares : ℕ
most_shares = 999999

-- the most orders that rest over all stocks: line 8 refuses an Enter once so many do
abbrev pub most_resting : ℕ
most_resting = 16384

-- a trading state: 'T' or 'H'
abbrev pub IsTradingState : ℕ → Type 0
IsTradingState letter = (letter ≡ trades) ⊎ (letter ≡ stands_still)

-- An order that rests, among so many traders, once so many orders were accepted. Accepted orders are numbered from 1, which are
-- their references; a Cancel only lowers an intended size; and line 7 refuses a price of 0 or above the highest.
pub record IsSmallOrder (traders accepted : ℕ) (o : Resting) : Type 0 where
  pub reference : IsUpTo accepted o.reference
  pub agent : IsUpTo traders o.agent
  pub price : IsUpTo highest_price o.price
  pub intended : o.intended ≤ most_shares
  pub left : IsUpTo o.intended o.left

-- A stock's orders are such, and stand in order of their references. It trades or is halted. Its last price is 0 or that of an
-- order that rested, and the shares that matched are of accepted orders.
pub record IsSmallStock (traders accepted : ℕ) (k : Stock) : Type 0 where
  pub orders : All (IsSmallOrder traders accepted) k.book
  pub rising : IsRising k.book
  pub state : IsTradingState k.trading
  pub last : k.tally.last ≤ highest_price
  pub matched : k.tally.matched ≤ most_shares * accepted

-- An exchange among so many traders after so many messages, each of which has at most one order accepted. A match ends an order:
-- the one that rested, or the incoming one.
pub record IsSmallExchange (traders messages : ℕ) (s : State) : Type 0 where
  pub stocks : All (IsSmallStock traders s.counts.orders) s.stocks
  pub resting : resting_over s.stocks ≤ most_resting
  pub accepted : s.counts.orders ≤ messages
  pub ended : s.counts.matches + resting_over s.stocks ≤ s.counts.orders

-- What a feed message says, once so many orders were accepted and there were so many matches, which are numbered from 1. A match
-- with a hidden order is told with reference 0. A trading action has a space and four spaces behind its state. No other kind
-- is told of a message or of a change.
abbrev pub IsSmallWhat : ℕ → ℕ → What → Type 0
IsSmallWhat accepted matches (what.Add reference side shares stock price) = IsUpTo accepted reference × IsUpTo most_shares shares × IsUpTo highest_price price
IsSmallWhat accepted matches (what.Executed reference shares number) = IsUpTo accepted reference × IsUpTo most_shares shares × IsUpTo matches number
IsSmallWhat accepted matches (what.Cancel reference shares) = IsUpTo accepted reference × IsUpTo most_shares shares
IsSmallWhat accepted matches (what.Delete reference) = IsUpTo accepted reference
IsSmallWhat accepted matches (what.Trade reference side shares stock price number) = (reference ≡ 0) × IsUpTo most_shares shares × IsUpTo highest_price price × IsUpTo matches number
IsSmallWhat accepted matches (what.Trading stock state reserved reason) = IsTradingState state × (reserved ≡ 32) × (reason ≡ 32 ∷ 32 ∷ 32 ∷ 32 ∷ [])
IsSmallWhat accepted matches _ = ⊥

-- A feed message of one of so many stocks.
pub record IsSmallFeed (stocks accepted matches : ℕ) (m : Feed) : Type 0 where
  pub locate : IsUpTo stocks m.locate
  pub tracking : m.tracking ≡ 0
  pub what : IsSmallWhat accepted matches m.what
