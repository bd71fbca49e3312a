use Rattle.std.proofs.Common.{◌≡◌}
use Rattle.base_tests.proofs.checkpoint_shelf_tests.hammer.are_right.Given as goal

abbrev pub invariant-loop-segment : goal.invariant-loop-segment
invariant-loop-segment l = record {
  same : l.seat.shelf ≡ l.initial.seat.shelf;
  numbers : l.seat.view.numbers ≡ l.initial.seat.view.numbers;
  claims : l.seat.view.claims ≡ l.initial.seat.view.claims;
  counts : l.seat.view.counts ≡ l.initial.seat.view.counts;
  turns : l.seat.view.turns ≡ l.initial.seat.view.turns;
}
