-- A trader of any kind with its silence, and what it does with a message.
use Rattle.std.specs.Prelude.{ℕ, Bool, false, if◌then◌else◌}
use Rattle.market_types.specs.declared.message.Body.{Body}
use Rattle.market_types.specs.declared.message.Body.TheVariants.{Wake, Order, Answer, Ask, Quote}
use Rattle.agent_shell.specs.declared.setting.TraderSetting.{TraderSetting}
use Rattle.agent_shell.specs.Decide.{Decided, answered, decided, unmoved}
use Rattle.agent_shell.specs.Sight.{Sight}
use Rattle.agent_shell.specs.Trader.{Trader, trader_at_opening}

-- All data of a trader, and whether it is silenced.
pub record PartyState : Type 0 where
  pub trader : Trader
  pub silent : Bool

-- at the opening no trader is silenced
abbrev pub party_at_opening : ℕ → TraderSetting → PartyState
party_at_opening agent setting = record { trader = trader_at_opening agent setting; silent = false }

-- a silenced trader takes replies, and nothing else moves it
abbrev pub silenced : Trader → Body → Decided
silenced t Wake = unmoved t
silenced t (Order inbound) = unmoved t
silenced t (Answer reply) = answered reply t
silenced t (Ask stock) = unmoved t
silenced t (Quote q) = unmoved t

-- what a trader does with a message: its new data and what it sends
abbrev pub reacted : Sight → PartyState → Body → Decided
reacted v p body = if p.silent then silenced p.trader body else decided v p.trader body

-- the party with other data of its trader
abbrev pub with_trader : Trader → PartyState → PartyState
with_trader t p = record { trader = t; silent = p.silent }
