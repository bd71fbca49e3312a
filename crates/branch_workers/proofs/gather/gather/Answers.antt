use Rattle.std.proofs.Common.{◌<◌, ◌+◌, ◌^◌, ◌++◌, ℕ, length, map, sum_by, ap, ◌∙◌, arith, refl}
use Rattle.checkpoint_shelf.proofs.Closes.{first_split}
use Rattle.branch_workers.proofs.Turns.{taken, counted_in, first_of_all, rest_of_all, finished_more}
use Rattle.branch_workers.proofs.gather.gather.Goals as goal

pub join-requires : goal.join-requires
join-requires g c =
    let inv = c.loop-workers.invariant in
    let is = first_split c.loop-workers.workers.items c.remove-worker.new.self.items c.remove-worker.result (omega arith) c.remove-worker.ensures.value c.remove-worker.ensures.items in
    let part = first_of_all c.loop-workers.workers.items c.remove-worker.new.self.items c.remove-worker.result is (λ w. w.steps < 2 ^ 52) inv.each in
    let small = inv.small in let none = c.new-steps.ensures in let long = ap (λ ws. length ws) is in omega arith

pub loop-workers-preserved : goal.loop-workers-preserved
loop-workers-preserved g c =
    let inv = c.loop-workers.invariant in
    let ws = c.loop-workers.workers.items in
    let rest = c.remove-worker.new.self.items in
    let x = c.remove-worker.result in
    let is = first_split ws rest x (omega arith) c.remove-worker.ensures.value c.remove-worker.ensures.items in
    let part = first_of_all ws rest x is (λ w. w.steps < 2 ^ 52) inv.each in
    let small = inv.small in let few = inv.few in let long = ap (λ ys. length ys) is in let joined = c.join.ensures in
    let seats = inv.seat_room in let outcomes = inv.outcome_room in
    record {
      seats = ap (λ ys. ys ++ map (λ w. w.seat) rest) c.push_reserved.ensures.items ∙ taken ws rest x is (λ w. w.seat) c.loop-workers.back.seats.items (map (λ w. w.seat) c.args.workers.items) inv.seats;
      outcomes = ap (λ ys. ys ++ map (λ w. w.outcomes) rest) c.push_reserved-in-loop-workers.ensures.items ∙ taken ws rest x is (λ w. w.outcomes) c.loop-workers.back.outcomes.items (map (λ w. w.outcomes) c.args.workers.items) inv.outcomes;
      seat_room = omega (arith, c.push_reserved.ensures.len, c.push_reserved.ensures.capacity);
      outcome_room = omega (arith, c.push_reserved-in-loop-workers.ensures.len, c.push_reserved-in-loop-workers.ensures.capacity);
      each = rest_of_all ws rest x is (λ w. w.steps < 2 ^ 52) inv.each;
      few = omega arith;
      steps = ap (λ (n : ℕ). n + sum_by (λ w. w.steps) rest) c.join.ensures ∙ counted_in ws rest x is (λ w. w.steps) c.loop-workers.steps _ inv.steps;
      small = omega arith;
      finished = finished_more ws rest x is (λ w. w.finished) c.loop-workers.back.finished c.args.workers.items inv.finished;
    }

pub loop-workers-init : goal.loop-workers-init
loop-workers-init g c = record {
  seats = ap (λ ys. ys ++ map (λ w. w.seat) c.args.workers.items) c.requires.seats.0;
  outcomes = ap (λ ys. ys ++ map (λ w. w.outcomes) c.args.workers.items) c.requires.outcomes.0;
  seat_room = c.requires.seats.1;
  outcome_room = c.requires.outcomes.1;
  each = c.requires.each;
  few = c.requires.few;
  steps = refl;
  small = omega (arith, c.requires.few);
  finished = λ b all. all;
}
