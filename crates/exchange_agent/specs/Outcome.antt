-- What handling a message gives.
use Rattle.std.specs.Prelude.{◌≤◌, ℕ, ℤ, pos, List, [], ◌∷◌}
use Rattle.market_types.specs.declared.feed.Feed.{Feed}
use Rattle.market_types.specs.declared.reply.Reply.{Reply}
use Rattle.market_types.specs.declared.message.Body.TheVariants.{Answer}
use Rattle.exchange_agent.specs.declared.handled.Outgoing.{Outgoing}
use Rattle.exchange_agent.specs.State.{State}

-- The state after, the replies with their receivers in order, the feed in order, and the sum of fees.
pub record Outcome : Type 0 where
  pub state : State
  pub replies : List Outgoing
  pub feed : List Feed
  pub fee : ℤ

-- no reply, no feed, no fee
abbrev pub silently : State → Outcome
silently s = record { state = s; replies = []; feed = []; fee = pos 0 }

-- one reply and no more
abbrev pub replied : State → ℕ → Reply → Outcome
replied s agent reply = record { state = s; replies = record { to = agent; body = Answer reply } ∷ []; feed = []; fee = pos 0 }

-- a reply goes to one of so many traders
pub record IsToTrader (traders : ℕ) (reply : Outgoing) : Type 0 where
  pub trader : 1 ≤ reply.to
  pub exists : reply.to ≤ traders
