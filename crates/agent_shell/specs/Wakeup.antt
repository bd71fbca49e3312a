-- What a trader does when it wakes.
use Rattle.std.specs.Prelude.{ℕ, ◌+◌, List, [], ◌∷◌, ◌++◌, map}
use Rattle.market_types.specs.declared.message.Body.TheVariants.{Ask, Order}
use Rattle.market_types.specs.declared.order.Inbound.TheVariants.{Cancel}
use Rattle.market_types.specs.declared.order.Token.{Token}
use Rattle.draw_streams.specs.Below.{below_of}
use Rattle.agent_shell.specs.declared.sending.Sending.{Sending}
use Rattle.agent_shell.specs.declared.sending.Sending.TheVariants.{To, WakeAt}
use Rattle.agent_shell.specs.declared.setting.Kind.{Kind}
use Rattle.agent_shell.specs.declared.setting.Kind.TheVariants.{Watcher, Noise, Value, Momentum, Maker}
use Rattle.agent_shell.specs.declared.shell.OwnOrder.{OwnOrder}
use Rattle.agent_shell.specs.Own.{OwnList}
use Rattle.agent_shell.specs.Sight.{Sight}
use Rattle.agent_shell.specs.Trader.{Trader, trader_word}

-- value and maker take back all orders of the own list
abbrev pub takes_back : Kind → OwnList → OwnList
takes_back Watcher own = []
takes_back (Noise size) own = []
takes_back (Value size noise margin) own = own
takes_back (Momentum size short long) own = []
takes_back (Maker size half step levels pause) own = own

-- an order is canceled to 0
abbrev pub cancel_of : Token → Sending
cancel_of token = To (Order (Cancel (record { token = token; shares = 0 }))) 0

-- when a trader wakes next: the next draw is made also where it wobbles by nothing
abbrev pub next_wakeup : Sight → Trader → ℕ
next_wakeup v t = v.time + t.setting.every + below_of (trader_word v t t.draws) (t.setting.wobble + 1)

-- what is sent: the cancels of the orders that are taken back, the first sent first; the question for the trader's stock; and the
-- next wakeup
abbrev pub wakeup_sends : Sight → Trader → List Sending
wakeup_sends v t =
    map (λ (e : Token × OwnOrder). cancel_of e.0) (takes_back t.setting.kind t.orders.own)
    ++ To (Ask t.setting.stock) 0 ∷ WakeAt (next_wakeup v t) ∷ []
