-- What an edit changes of the floor.
use Rattle.std.specs.Prelude.{◌≡◌, ◌≤◌, ◌<◌, ◌^◌, ℕ, ◌+ℤ◌, true, [], length, ⊤}
use Rattle.market_rules.specs.declared.changes.Change.TheVariants as change
use Rattle.market_rules.specs.declared.edit.Edit.{Edit}
use Rattle.market_rules.specs.declared.edit.Edit.TheVariants.{Tick, Fee, Halt, Resume, Latency, Agent, Silence, Inject, Series}
use Rattle.market_rules.specs.EditRanges.{is_near_zero}
use Rattle.agent_shell.specs.Parameters.{IsOwnParam}
use Rattle.agent_shell.specs.Trader.{trader_with}
use Rattle.market_floor.specs.Party.{with_trader}
use Rattle.exchange_agent.specs.Changes.{Changed, changed_by}
use Rattle.market_floor.specs.Floor.{FloorChanged, FloorState, offset_at, party_at, with_exchange, with_offset, with_party}

-- nothing is told
abbrev pub untold : FloorState → FloorChanged
untold f = record { floor = f; feed = [] }

-- a change of a stock's rules at a time
abbrev pub market_edited : FloorState → Changed → FloorChanged
market_edited f c = record { floor = with_exchange c.state f; feed = c.feed }

-- An edit at a time. Latencies and injected messages are not the floor's.
abbrev pub edited_floor : ℕ → Edit → FloorState → FloorChanged
edited_floor time (Tick stock table) f = market_edited f (changed_by f.exchange time stock (change.Tick table))
edited_floor time (Fee stock fees) f = market_edited f (changed_by f.exchange time stock (change.Fee fees))
edited_floor time (Halt stock) f = market_edited f (changed_by f.exchange time stock change.Halt)
edited_floor time (Resume stock) f = market_edited f (changed_by f.exchange time stock change.Resume)
edited_floor time (Latency from to base jitter) f = untold f
edited_floor time (Agent agent name value) f =
    untold (with_party agent (with_trader (trader_with name value (party_at f agent).trader) (party_at f agent)) f)
edited_floor time (Silence agent) f = untold (with_party agent (record (party_at f agent) { silent = true }) f)
edited_floor time (Inject agent after message) f = untold f
edited_floor time (Series stock offset) f = untold (with_offset stock (offset_at f stock +ℤ offset) f)

-- a trader's number
pub record IsAgent (traders agent : ℕ) : Type 0 where
  pub trader : 1 ≤ agent
  pub exists : agent ≤ traders

-- a parameter of an edit belongs to the trader's kind
abbrev pub IsParamOf : FloorState → Edit → Type 0
IsParamOf f (Agent agent name value) = IsOwnParam (party_at f agent).trader.setting.kind name value
IsParamOf f _ = ⊤

-- what an edit speaks of exists: its stock or its trader; a parameter belongs to the trader's kind; offsets are small
abbrev pub IsEdit : FloorState → Edit → Type 0
IsEdit f (Tick stock table) = stock < length f.exchange.stocks
IsEdit f (Fee stock fees) = stock < length f.exchange.stocks
IsEdit f (Halt stock) = stock < length f.exchange.stocks
IsEdit f (Resume stock) = stock < length f.exchange.stocks
IsEdit f (Latency from to base jitter) = ⊤
IsEdit f (Agent agent name value) = IsAgent (length f.parties) agent × IsOwnParam (party_at f agent).trader.setting.kind name value
IsEdit f (Silence agent) = IsAgent (length f.parties) agent
IsEdit f (Inject agent after message) = ⊤
IsEdit f (Series stock offset) =
    (stock < length f.offsets) × (is_near_zero 2000000000 offset ≡ true) × (is_near_zero (2 ^ 62) (offset_at f stock) ≡ true)
