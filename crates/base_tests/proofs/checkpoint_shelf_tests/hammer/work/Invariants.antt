use Rattle.std.proofs.Common.{◌≡◌, ◌≤◌, length}
use Rattle.base_tests.proofs.checkpoint_shelf_tests.hammer.work.Given as goal

abbrev pub invariant-loop-segment : goal.invariant-loop-segment
invariant-loop-segment g l = record {
  same : l.seat.shelf ≡ l.initial.seat.shelf;
  numbers : l.seat.view.numbers ≡ l.initial.seat.view.numbers;
  counts : l.seat.view.counts ≡ l.initial.seat.view.counts;
  turns : l.seat.view.turns ≡ l.initial.seat.view.turns;
  mine : l.mine ≡ length l.seat.view.claims;
  few : l.mine ≤ l.segment;
  given : l.given ≤ l.segment;
}
