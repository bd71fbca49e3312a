-- The plans for which a shelf can be laid out.
use Rattle.std.specs.Prelude.{◌≡◌, ℕ, ◌<◌, ◌≤◌, ◌^◌, ◌++◌, true, All}
use Rattle.shelf_core.specs.Plan.{are_distinct, rise, place_count}
use Rattle.shelf_core.specs.declared.plan.Key.{Key}
use Rattle.shelf_core.specs.declared.plan.ShelfPlan.{ShelfPlan}

-- A key of one of so many segments, with an event number below 2^24.
abbrev pub KeyBelow : ℕ → Key → Type 0
KeyBelow segments key = (key.segment < segments) × (key.event < 16777216)

-- Fewer than 4,096 segments and 2^32 places, and distinct keys of these segments, of which those of the forks rise by
-- segment and event, and so do those of the grid.
pub record PlanFits (plan : ShelfPlan) : Type 0 where
  pub segments : plan.segments < 4096
  pub places : place_count plan < 2 ^ 32
  pub distinct : are_distinct (plan.forks ++ plan.grid) ≡ true
  pub forks : All (KeyBelow plan.segments) plan.forks
  pub grid : All (KeyBelow plan.segments) plan.grid
  pub forks_rise : rise plan.forks ≡ true
  pub grid_rise : rise plan.grid ≡ true

abbrev pub SeatsFit : ℕ → Type 0
SeatsFit seats = (0 < seats) × (seats ≤ 64)
