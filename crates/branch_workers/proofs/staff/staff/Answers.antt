use Rattle.std.proofs.Common.{◌≡◌, [], false, length, refl, ap, arith, map, ◌++◌}
use Rattle.checkpoint_shelf.proofs.Closes.{first_split}
use Rattle.branch_workers.proofs.Turns.{made_of, numbered_of, all_of, longer, none_numbered, none_of, all_taken}
use Rattle.branch_workers.proofs.staff.staff.Goals as goal

pub loop-number-preserved : goal.loop-number-preserved
loop-number-preserved g c =
    let inv = c.loop-number.invariant in
    let ws = c.loop-number.workers.items in
    let p = c.push_reserved.ensures.items in
    let some = c.loop-number-test.true in let seats_left = inv.seats_left in let lanes_left = inv.lanes_left in let count = inv.count in let same = c.requires.count in
    let seats = first_split c.loop-number.seats.items c.remove-seat.new.self.items c.remove-seat.result (omega arith) c.remove-seat.ensures.value c.remove-seat.ensures.items in
    let lanes = first_split c.loop-number.lanes.items c.remove-lane.new.self.items c.remove-lane.result (omega arith) c.remove-lane.ensures.value c.remove-lane.ensures.items in
    let more = longer ws _ _ p in
    let one = ap (λ ys. length ys) seats in
    let two = ap (λ ys. length ys) lanes in
    record {
      seats = made_of ws _ _ p (λ w. w.seat) c.loop-number.seats.items c.remove-seat.new.self.items c.args.seats.items seats inv.seats;
      lanes = made_of ws _ _ p (λ w. w.lane) c.loop-number.lanes.items c.remove-lane.new.self.items c.args.lanes.items lanes inv.lanes;
      numbers = numbered_of ws _ _ p (λ w. w.number) inv.numbers inv.count;
      idle = all_of ws _ _ p (λ w. (w.steps ≡ 0) × (w.outcomes.items ≡ []) × (w.finished ≡ false)) inv.idle (c.new.ensures, c.new-in-loop-number.ensures.items, refl);
      count = omega arith;
      seats_left = omega arith;
      lanes_left = omega arith;
      room = omega (arith, c.push_reserved.ensures.capacity, inv.room);
    }

pub loop-number-init : goal.loop-number-init
loop-number-init g c =
    let ws = c.in-Ok.workers.items in
    let is = c.in-Ok.ensures.items in
    record {
      seats = ap (λ xs. map (λ w. w.seat) xs ++ c.args.seats.items) is;
      lanes = ap (λ xs. map (λ w. w.lane) xs ++ c.args.lanes.items) is;
      numbers = none_numbered ws is (λ w. w.number);
      idle = none_of ws is (λ w. (w.steps ≡ 0) × (w.outcomes.items ≡ []) × (w.finished ≡ false));
      count = ap (λ xs. length xs) is;
      seats_left = omega arith;
      lanes_left = omega arith;
      room = let long = c.len.ensures in omega (arith, c.in-Ok.ensures.capacity);
    }

pub returns-clause-seats : goal.returns-clause-seats
returns-clause-seats g c =
    let inv = c.loop-number.invariant in let end = c.loop-number-test.false in let seats_left = inv.seats_left in
    all_taken (map (λ w. w.seat) c.loop-number.workers.items) c.loop-number.seats.items c.args.seats.items inv.seats (omega arith)

pub returns-clause-lanes : goal.returns-clause-lanes
returns-clause-lanes g c =
    let inv = c.loop-number.invariant in let end = c.loop-number-test.false in let lanes_left = inv.lanes_left in let same = c.requires.count in
    all_taken (map (λ w. w.lane) c.loop-number.workers.items) c.loop-number.lanes.items c.args.lanes.items inv.lanes (omega arith)

pub returns-clause-numbers : goal.returns-clause-numbers
returns-clause-numbers g c = c.loop-number.invariant.numbers

pub returns-clause-idle : goal.returns-clause-idle
returns-clause-idle g c = c.loop-number.invariant.idle
