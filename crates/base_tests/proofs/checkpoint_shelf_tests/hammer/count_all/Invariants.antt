use Rattle.std.proofs.Common.{◌≡◌}
use Rattle.base_tests.proofs.checkpoint_shelf_tests.hammer.count_all.Given as goal

abbrev pub invariant-loop : goal.invariant-loop
invariant-loop l = record {
  same : l.seat.shelf ≡ l.initial.seat.shelf;
  numbers : l.seat.view.numbers ≡ l.initial.seat.view.numbers;
  claims : l.seat.view.claims ≡ l.initial.seat.view.claims;
  turns : l.seat.view.turns ≡ l.initial.seat.view.turns;
  counts : l.seat.view.counts ≡ l.counter;
}
