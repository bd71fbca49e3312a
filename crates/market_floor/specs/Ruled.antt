-- Dated changes of the stocks' rules.
use Rattle.std.specs.Prelude.{ℕ, max, List, [], ◌∷◌, ◌++◌, drop, take}
use Rattle.market_rules.specs.declared.changes.Dated.{Dated}
use Rattle.market_rules.specs.Changes.{dated_by}
use Rattle.exchange_agent.specs.Changes.{Changed, changed_by}
use Rattle.exchange_agent.specs.State.{State}
use Rattle.market_floor.specs.declared.opening.Opening.{Opening}
use Rattle.market_floor.specs.Floor.{FloorChanged, FloorState, with_exchange}

-- the exchange after changes in their order, each made at its own date, and their feed
abbrev pub all_changed : List Dated → State → Changed
all_changed [] s = record { state = s; feed = [] }
all_changed (d ∷ ds) s = record {
  state = (all_changed ds (changed_by s d.time d.stock d.change).state).state;
  feed = (changed_by s d.time d.stock d.change).feed ++ (all_changed ds (changed_by s d.time d.stock d.change).state).feed;
}

-- the changes that are dated at a time or earlier, but for the first so many, which were made before
abbrev pub due : Opening → ℕ → ℕ → List Dated
due o applied time = drop applied (take (dated_by o.dated time) o.dated)

-- how many changes are made once those that are due at a time are
abbrev pub applied_by : Opening → ℕ → ℕ → ℕ
applied_by o applied time = max applied (dated_by o.dated time)

-- the floor after the changes that are due at a time
unfoldable pub ruled : Opening → ℕ → ℕ → FloorState → FloorChanged
ruled o applied time f = record {
  floor = with_exchange (all_changed (due o applied time) f.exchange).state f;
  feed = (all_changed (due o applied time) f.exchange).feed;
}
