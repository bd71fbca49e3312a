use Rattle.std.proofs.Common.{◌≡◌, ◌<◌, ◌≤◌, ◌+◌, ◌-◌, ◌*◌, []}
use Rattle.branch_tree.specs.Segments.{segment_at}
use Rattle.shelf_core.specs.Made.{Stays}
use Rattle.kernel_copy.specs.Ran.{ran_told}
use Rattle.kernel_copy.specs.Segmentwise.{from_count}
use Rattle.branch_workers.specs.Runs.{IsUnderway}
use Rattle.branch_workers.proofs.Underway.{KnowsBefore}
use Rattle.branch_workers.proofs.grid.pass_grid.Given as goal

abbrev pub invariant-loop-factor : goal.invariant-loop-factor
invariant-loop-factor g l = record {
  same : l.seat.shelf ≡ l.initial.seat.shelf;
  stays : Stays l.initial.seat.view l.seat.view;
  turns : l.seat.view.turns ≡ [];
  begins : from_count l.shift.course.now.value.opening l.shift.course.now.value.plan (segment_at l.shift.course.now.value.plan l.segment) < l.factor * l.shift.stride;
  within : (l.factor - 1) * l.shift.stride ≤ l.shift.course.now.value.opening.limit;
  underway : IsUnderway l.shift.course.now.value l.shift.keep l.segment ((l.factor - 1) * l.shift.stride) (ran_told l.ran);
  ticks : l.steps + l.initial.ran.kernel.events ≡ l.initial.steps + l.ran.kernel.events;
  grows : l.initial.ran.kernel.events ≤ l.ran.kernel.events;
  known : KnowsBefore l.shift.course.now.value l.shift.shelf.now.plan l.segment (l.factor * l.shift.stride) l.seat.view;
}
