use Rattle.std.proofs.Common.{◌≡◌}
use Rattle.crossbeam_deque.specs.Handles.{view, IsPassOf, stealer_deque, stealer_flavor}
use Rattle.branch_deques.proofs.end.OtherLane.steal.Given as goal

abbrev pub invariant-loop : goal.invariant-loop
invariant-loop g l = record {
  can : (goal.iterator-loop g).can_next l.iterator';
  fin : (goal.iterator-loop g).is_finite l.iterator';
  same : stealer_deque l.self-inside.thief ≡ stealer_deque l.initial.self-inside.thief;
  pass_of : IsPassOf (stealer_deque l.self-inside.thief) l.self-inside.pass;
  fifo : stealer_flavor l.self-inside.thief ≡ 0;
  view : view l.self-inside.pass ≡ view l.initial.self-inside.pass;
}
