-- The shelf that workers of a course give back.
use Rattle.std.specs.Prelude.{◌≡◌, ℕ}
use Rattle.checkpoint_shelf.specs.Told.{ClosedTold}
use Rattle.kernel_copy.specs.Courses.{CourseTold}
use Rattle.branch_workers.specs.Layout.{layout}
use Rattle.branch_workers.specs.Workers.{RanOnce}

-- A closed shelf of a course with so many places for the grid of a stride, on which so many workers ran each segment once.
pub record IsAfterWork (c : CourseTold) (stride places workers : ℕ) (shelf : ClosedTold CourseTold) : Type 0 where
  pub plan : shelf.plan ≡ layout c.plan stride places
  pub course : shelf.course ≡ c
  pub once : RanOnce c (layout c.plan stride places) workers shelf.system
