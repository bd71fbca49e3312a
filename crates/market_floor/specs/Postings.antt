-- What an agent gives to the mail.
use Rattle.std.specs.Prelude.{◌≡◌, ◌<◌, ◌≤◌, ◌^◌, ℕ}
use Rattle.market_types.specs.declared.message.Body.{Body}
use Rattle.market_types.specs.declared.message.Body.TheVariants.{Wake}
use Rattle.market_types.specs.declared.message.Message.{Message}
use Rattle.exchange_agent.specs.Market.{IsAskable}
use Rattle.market_floor.specs.declared.posting.Posting.{Posting}
use Rattle.market_floor.specs.declared.posting.Posting.TheVariants.{To, WakeAt}

-- how long after its leaving a posting is asked to go
abbrev pub extra_of : Posting → ℕ
extra_of (To to body extra) = extra
extra_of (WakeAt time) = 0

-- whom a posting of an agent reaches
abbrev pub receiver_of : ℕ → Posting → ℕ
receiver_of from (To to body extra) = to
receiver_of from (WakeAt time) = from

-- what a posting says
abbrev pub body_of : Posting → Body
body_of (To to body extra) = body
body_of (WakeAt time) = Wake

-- the earliest time at which a posting of an agent at a time can be due
abbrev pub earliest_of : ℕ → Posting → ℕ
earliest_of time (To to body extra) = time
earliest_of time (WakeAt wake) = wake

-- What a trader or the exchange posts: between agents of so many traders, to the exchange only from a trader, a question only
-- for one of so many stocks, and with a small extra time.
pub record IsAddressed (traders stocks from : ℕ) (x : Posting) : Type 0 where
  pub sender : from ≤ traders
  pub receiver : receiver_of from x ≤ traders
  pub known : receiver_of from x ≡ 0 → 1 ≤ from
  pub asks : IsAskable stocks (body_of x)
  pub extra : extra_of x < 2 ^ 60

-- The same of a message.
pub record IsAmong (traders stocks : ℕ) (m : Message) : Type 0 where
  pub from : m.from ≤ traders
  pub to : m.to ≤ traders
  pub known : m.to ≡ 0 → 1 ≤ m.from
  pub asks : IsAskable stocks m.body
