-- How far one message moves a trader, where a trader is after so many, and what a trader's sendings look like.
use Rattle.std.specs.Prelude.{◌≡◌, ◌<◌, ◌≤◌, ◌+◌, ◌*◌, ◌^◌, ℕ, ℤ, pos, ◌+ℤ◌, ◌≤ℤ◌, List, length, All}
use Rattle.market_types.specs.Limits.{highest_price}
use Rattle.market_types.specs.declared.message.Body.TheVariants.{Wake, Order, Answer, Ask, Quote}
use Rattle.market_types.specs.declared.order.Enter.{Enter}
use Rattle.market_types.specs.declared.order.Inbound.TheVariants.{Enter as NewOrder, Cancel}
use Rattle.agent_shell.specs.declared.sending.Sending.{Sending}
use Rattle.agent_shell.specs.declared.sending.Sending.TheVariants.{To, WakeAt}
use Rattle.agent_shell.specs.Parameters.{IsBetween}
use Rattle.agent_shell.specs.Shell.{IsWithin}
use Rattle.agent_shell.specs.Sight.{Sight}
use Rattle.agent_shell.specs.Trader.{Trader}

-- two numbers lie at most so far apart
pub record IsNear (most : ℕ) (a b : ℤ) : Type 0 where
  pub up : b ≤ℤ (a +ℤ pos most)
  pub down : a ≤ℤ (b +ℤ pos most)

-- One message moves a trader at most so far: 16 orders of a maker, two draws, one quote, and one execution.
pub record IsMoved (before after : Trader) : Type 0 where
  pub setting : after.setting ≡ before.setting
  pub agent : after.orders.agent ≡ before.orders.agent
  pub tokens : after.orders.tokens ≤ before.orders.tokens + 16
  pub draws : after.draws ≤ before.draws + 2
  pub quotes : after.quotes ≤ before.quotes + 1
  pub position : IsNear (2 ^ 32) before.orders.account.position after.orders.account.position
  pub cash : IsNear (2 ^ 71) before.orders.account.cash after.orders.account.cash

-- Where a trader is at most after so many messages.
pub record IsAfter (messages : ℕ) (t : Trader) : Type 0 where
  pub tokens : t.orders.tokens ≤ 16 * messages
  pub draws : t.draws ≤ 2 * messages
  pub quotes : t.quotes ≤ messages
  pub position : IsWithin (2 ^ 32 * messages) t.orders.account.position
  pub cash : IsWithin (2 ^ 63 + 2 ^ 71 * messages) t.orders.account.cash

-- an order in the trader's stock, at most seven pauses of an hour after the end of the computation
pub record IsOrder (v : Sight) (e : Enter) (extra : ℕ) : Type 0 where
  pub stock : e.stock ≡ v.symbol
  pub price : IsBetween 1 highest_price e.price
  pub shares : IsBetween 1 999999 e.shares
  pub soon : extra ≤ 25200000000000

-- What a trader sends: an order, a cancel to 0, a question for its stock, or a wakeup that lies ahead.
abbrev pub IsSending : Sight → Trader → Sending → Type 0
IsSending v t (To Wake extra) = ⊥
IsSending v t (To (Order (NewOrder e)) extra) = IsOrder v e extra
IsSending v t (To (Order (Cancel c)) extra) = (c.shares ≡ 0) × (extra ≡ 0)
IsSending v t (To (Answer reply) extra) = ⊥
IsSending v t (To (Ask stock) extra) = (stock ≡ t.setting.stock) × (extra ≡ 0)
IsSending v t (To (Quote q) extra) = ⊥
IsSending v t (WakeAt time) = (v.time < time) × (time ≤ v.time + t.setting.every + t.setting.wobble)

-- What a trader sends for one message: at most the cancels of 64 orders, a question and a wakeup.
pub record AreSendings (v : Sight) (t : Trader) (sends : List Sending) : Type 0 where
  pub few : length sends ≤ 66
  pub each : All (IsSending v t) sends
