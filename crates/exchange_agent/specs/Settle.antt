-- What a match settles.
use Rattle.std.specs.Prelude.{ℕ, ◌+◌, ◌-◌, ◌*◌, if◌then◌else◌, ℤ, pos, neg_ℤ, ◌+ℤ◌, List, [], ◌∷◌, ◌++◌, slice_index_or, slice_set}
use Rattle.market_types.specs.declared.order.Side.{Side}
use Rattle.market_types.specs.declared.order.Side.TheVariants.{Buy, Sell}
use Rattle.market_types.specs.declared.order.Symbol.{Symbol}
use Rattle.market_types.specs.declared.order.Token.{Token}
use Rattle.market_types.specs.declared.reply.Reply.TheVariants.{Executed}
use Rattle.market_types.specs.declared.message.Body.{Body}
use Rattle.market_types.specs.declared.message.Body.TheVariants.{Answer}
use Rattle.market_types.specs.declared.feed.Feed.{Feed}
use Rattle.market_types.specs.declared.feed.What.{What}
use Rattle.market_types.specs.declared.feed.What.TheVariants as what
use Rattle.market_rules.specs.declared.fees.FeeTable.{FeeTable}
use Rattle.market_rules.specs.Fees.{fee_of}
use Rattle.price_time_book.specs.declared.resting.Fill.{Fill}
use Rattle.market_types.specs.Sides.{opposite_of}
use Rattle.price_time_book.specs.Matched.{after_fill}
use Rattle.exchange_agent.specs.declared.handled.Outgoing.{Outgoing}
use Rattle.exchange_agent.specs.declared.settle.Taking.{Taking}
use Rattle.exchange_agent.specs.State.{Stock, Tally}

-- the liquidity flags: 'A' of the order that rested and added, 'R' of the one that came and removed
abbrev pub added : ℕ
added = 65

abbrev pub removed : ℕ
removed = 82

-- what a side's account gains in shares where it trades so many
abbrev pub shares_gained : Side → ℕ → ℤ
shares_gained Buy shares = pos shares
shares_gained Sell shares = neg_ℤ (pos shares)

-- what it gains in millionths of a dollar: a buyer pays, a seller is paid
abbrev pub money_gained : Side → ℕ → ℤ
money_gained Buy amount = neg_ℤ (pos amount)
money_gained Sell amount = pos amount

-- the accounts of the traders, of which one gains so much; traders are numbered from 1
abbrev pub gained : ℕ → ℤ → List ℤ → List ℤ
gained agent n accounts = slice_set accounts (agent - 1) (slice_index_or accounts (agent - 1) (pos 0) +ℤ n)

-- what a match costs in millionths of a dollar: 100 for each unit of the resting order's price and each share
abbrev pub worth_of : Fill → ℕ
worth_of f = 100 * f.resting.price * f.shares

-- what a match costs the resting order's agent in fees, and the incoming one's
abbrev pub fee_added : FeeTable → Fill → ℤ
fee_added fees f = fee_of fees added f.shares

abbrev pub fee_taken : FeeTable → Fill → ℤ
fee_taken fees f = fee_of fees removed f.shares

abbrev pub both_fees_of : FeeTable → Fill → ℤ
both_fees_of fees f = fee_added fees f +ℤ fee_taken fees f

-- settled cash after a match of an incoming order of this agent and side
abbrev pub cash_after : FeeTable → ℕ → Side → Fill → List ℤ → List ℤ
cash_after fees agent side f cash =
    gained agent (money_gained side (worth_of f) +ℤ neg_ℤ (fee_taken fees f))
    (gained f.resting.agent (money_gained (opposite_of side) (worth_of f) +ℤ neg_ℤ (fee_added fees f)) cash)

-- settled positions after it
abbrev pub positions_after : ℕ → Side → Fill → List ℤ → List ℤ
positions_after agent side f positions =
    gained agent (shares_gained side f.shares) (gained f.resting.agent (shares_gained (opposite_of side) f.shares) positions)

-- the tally after it: the last price is that of the resting order
abbrev pub tally_after : FeeTable → ℕ → Side → Fill → Tally → Tally
tally_after fees agent side f t = record {
  last = f.resting.price;
  matched = t.matched + f.shares;
  taken = t.taken +ℤ both_fees_of fees f;
  positions = positions_after agent side f t.positions;
}

-- the reply Executed of a match under a token, at the resting price
abbrev pub execution_of : ℕ → Token → ℕ → ℕ → Fill → Body
execution_of time token flag number f = Answer (Executed time token f.shares f.resting.price flag number)

-- What the feed tells of a match: Order Executed of a shown resting order; a Trade in the stock where it is hidden, with
-- reference 0 and side 'B' whatever its own are.
abbrev pub match_told : Symbol → ℕ → Fill → What
match_told symbol number f =
    if f.resting.shown then what.Executed f.resting.reference f.shares number
    else what.Trade 0 Buy f.shares symbol f.resting.price number

abbrev pub fed : ℕ → ℕ → Symbol → ℕ → Fill → Feed
fed locate time symbol number f = record { locate = locate; tracking = 0; time = time; what = match_told symbol number f }

-- An incoming order on its way through its matches: its stock, settled cash, the count of matches, replies and feed so far, and
-- the fees so far.
pub record Way : Type 0 where
  pub stock : Stock
  pub cash : List ℤ
  pub matches : ℕ
  pub replies : List Outgoing
  pub feed : List Feed
  pub fee : ℤ

-- one match: first the resting order's agent is told, with flag 'A', then the incoming one's, with flag 'R'; then the feed
abbrev pub settled : Taking → Fill → Way → Way
settled t f w = record {
  stock = record w.stock { book = after_fill f w.stock.book; tally = tally_after w.stock.fees t.agent t.side f w.stock.tally };
  cash = cash_after w.stock.fees t.agent t.side f w.cash;
  matches = w.matches + 1;
  replies = w.replies
      ++ record { to = f.resting.agent; body = execution_of t.time f.resting.token added (w.matches + 1) f }
      ∷ record { to = t.agent; body = execution_of t.time t.token removed (w.matches + 1) f }
      ∷ [];
  feed = w.feed ++ fed t.locate t.time w.stock.symbol (w.matches + 1) f ∷ [];
  fee = w.fee +ℤ both_fees_of w.stock.fees f;
}

-- all matches in their order
abbrev pub all_settled : Taking → List Fill → Way → Way
all_settled t [] w = w
all_settled t (f ∷ fs) w = all_settled t fs (settled t f w)
