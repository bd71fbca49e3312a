-- A run of the kernel as its exchange met it.
use Rattle.std.specs.Prelude.{◌≡◌, ◌≤◌, List, length}
use Rattle.std.specs.List.{AllByRecursion}
use Rattle.exchange_agent.specs.State.{State as Exchange}
use Rattle.exchange_agent.specs.Open.{opened}
use Rattle.exchange_agent.specs.Runs.{Act, IsPossible, run}
use Rattle.market_floor.specs.declared.opening.Opening.{Opening}
use Rattle.market_floor.specs.Opening.{cash_of}
use Rattle.kernel_core.specs.Until.{Run}
use Rattle.feed_rebuild.specs.Feeds.{entries_feed}
use Rattle.market_laws.specs.Feeds.{feed_over}
use Rattle.market_laws.specs.Messages.{messages_in}

-- the exchange of a study before the first message
abbrev pub first_exchange : Opening → Exchange
first_exchange o = opened o.stocks (cash_of o) o.hidden

-- The exchange of a run met these messages and changes of rules, one after another, since the opening. Each message is from a
-- trader and each change of a stock that there is; the run's exchange is what they leave, its feed what they tell; and each
-- message was an event.
pub record IsMetAs (o : Opening) (r : Run) (acts : List Act) : Type 0 where
  pub possible : AllByRecursion (IsPossible (length o.traders) (length o.stocks)) acts
  pub exchange : r.state.floor.exchange ≡ run (first_exchange o) acts
  pub feed : entries_feed r.entries ≡ feed_over (first_exchange o) acts
  pub messages : messages_in acts ≤ r.state.events
