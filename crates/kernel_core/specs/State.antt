-- The kernel's state as plain data.
use Rattle.std.specs.Prelude.{ℕ, List}
use Rattle.latency_model.specs.Tables.{Tables}
use Rattle.kernel_core.specs.Post.{Post}
use Rattle.market_floor.specs.Floor.{FloorState}

-- The time of the last event, the count of events, how many dated changes were applied, what waits, the own time of each
-- agent (the exchange first), the exchange with all traders and the offsets of the stocks' values, and the latency tables in
-- force.
pub record State : Type 0 where
  pub time : ℕ
  pub events : ℕ
  pub applied : ℕ
  pub post : Post
  pub own : List ℕ
  pub floor : FloorState
  pub groups : Tables
