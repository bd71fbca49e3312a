use Rattle.std.proofs.Common.{◌≡◌, ◌≤◌, ◌<◌, ◌+◌, ◌*◌, ◌^◌, ◌++◌, All, true, length, map, sum_by, vec_capacity, vec_len}
use Rattle.branch_workers.proofs.gather.gather.Given as goal

abbrev pub invariant-loop-workers : goal.invariant-loop-workers
invariant-loop-workers g l = record {
  seats : l.back.seats.items ++ map (λ w. w.seat) l.workers.items ≡ map (λ w. w.seat) l.initial.workers.items;
  outcomes : l.back.outcomes.items ++ map (λ w. w.outcomes) l.workers.items ≡ map (λ w. w.outcomes) l.initial.workers.items;
  seat_room : vec_len l.back.seats + length l.workers.items ≤ vec_capacity l.back.seats;
  outcome_room : vec_len l.back.outcomes + length l.workers.items ≤ vec_capacity l.back.outcomes;
  each : All (λ w. w.steps < 2 ^ 52) l.workers.items;
  few : length l.workers.items ≤ 64;
  steps : l.steps + sum_by (λ w. w.steps) l.workers.items ≡ l.initial.steps + sum_by (λ w. w.steps) l.initial.workers.items;
  small : l.steps + length l.workers.items * 2 ^ 52 ≤ l.initial.steps + 64 * 2 ^ 52;
  finished : l.back.finished ≡ true → All (λ w. w.finished ≡ true) l.workers.items → All (λ w. w.finished ≡ true) l.initial.workers.items;
}

abbrev pub decreases-loop-workers : goal.decreases-loop-workers
decreases-loop-workers g l = length l.workers.items
