use Rattle.std.proofs.Common.{◌≡◌}
use Rattle.shelf_core.specs.Made.{Stays}
use Rattle.branch_workers.proofs.found.wait_for.Given as goal

abbrev pub invariant-loop : goal.invariant-loop
invariant-loop g l = record {
  can : (goal.iterator-loop g).can_next l.iterator';
  fin : (goal.iterator-loop g).is_finite l.iterator';
  same : l.seat.shelf ≡ l.initial.seat.shelf;
  stays : Stays l.initial.seat.view l.seat.view;
  turns : l.seat.view.turns ≡ l.initial.seat.view.turns;
}
