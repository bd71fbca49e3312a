-- A run in which an order is sold and a stock halted.
use Rattle.std.specs.Prelude.{List, [], ◌∷◌}
use Rattle.market_types.specs.declared.order.Inbound.TheVariants as inbound
use Rattle.market_types.specs.declared.order.Side.TheVariants.{Sell}
use Rattle.market_types.specs.declared.message.Body.TheVariants as body
use Rattle.market_rules.specs.declared.changes.Change.TheVariants as change_kind
use Rattle.market_rules.specs.declared.edit.Edit.TheVariants as edit_kind
use Rattle.exchange_agent.specs.Runs.{Act, message, change}
use Rattle.exchange_agent.specs.Worked.{order}
use Rattle.market_floor.specs.declared.opening.Opening.{Opening}
use Rattle.market_floor.specs.OpeningWorked.{market, watcher}
use Rattle.kernel_core.specs.Edited.{edited}
use Rattle.kernel_core.specs.EditsWorked.{sold}
use Rattle.kernel_core.specs.Until.{Run, until}
use Rattle.kernel_core.specs.Worked.{opening_run}

-- a market that opens at 1000 and closes at 2000, before its one trader wakes
abbrev pub quiet_market : Opening
quiet_market = market 2000 0 (watcher 5000 ∷ [])

-- an order of the trader to sell 100 at 10.01 dollars is injected at the opening, due 100 later; behind its event the stock is
-- halted
abbrev pub sold_and_halted : Run
sold_and_halted =
    edited 2 (edit_kind.Halt 0 ∷ []) (until quiet_market 1 (edited 1 (sold 65 100 ∷ []) (opening_run quiet_market)))

-- what the exchange met
abbrev pub sell_and_halt : List Act
sell_and_halt = message 1100 1 (body.Order (inbound.Enter (order 65 Sell 100 100100))) ∷ change 1100 0 change_kind.Halt ∷ []
