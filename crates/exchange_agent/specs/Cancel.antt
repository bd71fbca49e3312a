-- What the exchange does with a Cancel.
use Rattle.std.specs.Prelude.{ℕ, ◌+◌, ◌-◌, ◌==◌, nat_lt, if◌then◌else◌, pos, List, [], ◌∷◌, Option, Some, None}
use Rattle.market_types.specs.declared.feed.Feed.{Feed}
use Rattle.market_types.specs.declared.feed.What.{What}
use Rattle.market_types.specs.declared.feed.What.TheVariants as what
use Rattle.market_types.specs.declared.message.Body.TheVariants.{Answer}
use Rattle.market_types.specs.declared.order.Cancel.{Cancel}
use Rattle.market_types.specs.declared.order.Token.{Token}
use Rattle.market_types.specs.declared.reply.Reply.TheVariants.{Canceled}
use Rattle.price_time_book.specs.declared.resting.Resting.{Resting}
use Rattle.price_time_book.specs.Orders.{order_of, changed, reduced}
use Rattle.exchange_agent.specs.declared.cancel.Found.{Found}
use Rattle.exchange_agent.specs.Outcome.{Outcome, silently}
use Rattle.exchange_agent.specs.State.{State, Stock, stock_at, with_stock}

-- the resting order that an agent sent under a token, over the stocks from this number on, with its stock's number
abbrev pub found_here : ℕ → Option Resting → Option Found → Option Found
found_here k (Some o) later = Some (record { stock = k; order = o })
found_here k None later = later

abbrev pub found_from : ℕ → ℕ → Token → List Stock → Option Found
found_from k agent token [] = None
found_from k agent token (x ∷ xs) = found_here k (order_of agent token x.book) (found_from (k + 1) agent token xs)

-- the new open shares of an order whose intended size is to be so many: those less the executed ones, which are the intended
-- ones less the open ones, and 0 at least
abbrev pub open_of : Resting → ℕ → ℕ
open_of o shares = shares - (o.intended - o.left)

-- the feed's message: Order Cancel of the decrement where shares stay open, else Order Delete
abbrev pub lowering_of : Resting → ℕ → What
lowering_of o left = if left == 0 then what.Delete o.reference else what.Cancel o.reference (o.left - left)

-- what the feed tells of it: nothing of a hidden order
abbrev pub lowered_feed : ℕ → ℕ → Resting → ℕ → List Feed
lowered_feed locate time o left =
    if o.shown then record { locate = locate; tracking = 0; time = time; what = lowering_of o left } ∷ [] else []

-- a Cancel of an order that rests, to fewer shares than its intended size; the reason 'U' is 85
abbrev pub canceled : State → ℕ → ℕ → Cancel → ℕ → Resting → Outcome
canceled s time agent c k o = record {
  state = with_stock s k (record (stock_at s k) { book = changed (reduced (open_of o c.shares) o) (stock_at s k).book });
  replies = record { to = agent; body = Answer (Canceled time c.token (o.left - open_of o c.shares) 85) } ∷ [];
  feed = lowered_feed (k + 1) time o (open_of o c.shares);
  fee = pos 0;
}

-- a Cancel that is ignored
abbrev pub unheard : State → Outcome
unheard s = silently (record s { counts = record s.counts { cancels = s.counts.cancels + 1 } })

-- a Cancel is ignored where the agent has no such order or the shares are not below its intended size
abbrev pub cancel_of : State → ℕ → ℕ → Cancel → Option Found → Outcome
cancel_of s time agent c None = unheard s
cancel_of s time agent c (Some f) = if nat_lt c.shares f.order.intended then canceled s time agent c f.stock f.order else unheard s
