-- What holds of a trader of any kind.
use Rattle.std.proofs.Common.{inl, inr}
use Rattle.std.proofs.lemmas.Bool.{cases_Bool}
use Rattle.market_types.specs.declared.message.Body.{Body}
use Rattle.market_types.specs.declared.message.Body.TheVariants.{Wake, Order, Answer, Ask, Quote}
use Rattle.agent_shell.specs.Bounds.{AreSendings}
use Rattle.agent_shell.specs.Sight.{Sight}
use Rattle.agent_shell.specs.Sound.{IsTrader}
use Rattle.agent_shell.specs.Trader.{Trader}
use Rattle.agent_shell.proofs.Sent.{decided-sent, none-sent}
use Rattle.market_floor.specs.Party.{PartyState, reacted, silenced}

silenced-sent : (v : Sight) (t : Trader) (body : Body) → AreSendings v t (silenced t body).sends
silenced-sent v t Wake = none-sent v t
silenced-sent v t (Order inbound) = none-sent v t
silenced-sent v t (Answer reply) = none-sent v t
silenced-sent v t (Ask stock) = none-sent v t
silenced-sent v t (Quote q) = none-sent v t

pub reacted-sent : (v : Sight) (p : PartyState) (body : Body) → IsTrader p.trader → AreSendings v p.trader (reacted v p body).sends
reacted-sent v p body sound =
    elim (cases_Bool p.silent) [
      | inl silent ↦ rw silent (silenced-sent v p.trader body)
      | inr awake ↦ rw awake (decided-sent v p.trader body sound)
    ]
