use Rattle.std.proofs.Common.{◌≡◌, ◌≤◌, ◌+◌, ◌++◌, All, [], false, length, map, vec_capacity}
use Rattle.branch_workers.specs.Workers.{AreNumbered}
use Rattle.branch_workers.proofs.staff.staff.Given as goal

abbrev pub invariant-loop-number : goal.invariant-loop-number
invariant-loop-number g l = record {
  seats : map (λ w. w.seat) l.workers.items ++ l.seats.items ≡ l.initial.seats.items;
  lanes : map (λ w. w.lane) l.workers.items ++ l.lanes.items ≡ l.initial.lanes.items;
  numbers : AreNumbered (map (λ w. w.number) l.workers.items);
  idle : All (λ w. (w.steps ≡ 0) × (w.outcomes.items ≡ []) × (w.finished ≡ false)) l.workers.items;
  count : length l.workers.items ≡ l.number;
  seats_left : length l.seats.items + l.number ≡ length l.initial.seats.items;
  lanes_left : length l.lanes.items + l.number ≡ length l.initial.lanes.items;
  room : length l.initial.seats.items ≤ vec_capacity l.workers;
}
