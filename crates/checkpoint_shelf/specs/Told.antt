-- What contracts see of a shelf, of a seat and of a closed shelf.
use Rattle.std.specs.Prelude.{ℕ, Option, Some, None}
use Rattle.atomic_table.specs.Seated.{TableId}
use Rattle.shelf_core.specs.declared.plan.ShelfPlan.{ShelfPlan}
use Rattle.shelf_core.specs.declared.seat.SeatView.{SeatView}
use Rattle.shelf_core.specs.declared.system.System.{System}
use Rattle.checkpoint_shelf.specs.declared.about.About.{About}

-- Which shelf it is, and what it was laid out for.
pub record ShelfTold (Co : Type 0) : Type 0 where
  pub table : TableId
  pub plan : ShelfPlan
  pub seats : ℕ
  pub course : Co

-- The shelf that a seat is of, and what the seat knows. Each seat is of some shelf.
pub record SeatTold (Co : Type 0) : Type 0 where
  pub shelf : Option (ShelfTold Co)
  pub view : SeatView

-- A closed shelf: what it was laid out for, and the system that it was when it was closed.
pub record ClosedTold (Co : Type 0) : Type 0 where
  pub plan : ShelfPlan
  pub course : Co
  pub system : System

module _ {C Co : Type 0} where
  -- The shelf with this table that was told this.
  abbrev pub told_of : TableId → About C Co → ShelfTold Co
  told_of table k = record { table = table; plan = k.plan; seats = k.seats; course = k.course.value }

  abbrev pub shelf_of : TableId → Option (About C Co) → Option (ShelfTold Co)
  shelf_of table None = None
  shelf_of table (Some k) = Some (told_of table k)
