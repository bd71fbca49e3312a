use Rattle.std.proofs.Common.{◌≡◌, [], ◌<◌, ◌^◌, List, All, true, false, length, map, sum_by, sym, ap, ◌∙◌, subst, arith}
use Rattle.std.proofs.lemmas.List.{length-map}
use Rattle.branch_deques.specs.Told.{LaneTold}
use Rattle.checkpoint_shelf.specs.Told.{SeatTold}
use Rattle.kernel_copy.specs.Courses.{CourseTold, IsCourse}
use Rattle.branch_workers.specs.Claims.{HasPushed}
use Rattle.branch_workers.specs.Workers.{IsAtWork, AreNumbered}
use Rattle.branch_workers.proofs.Gathering.{ready, unfinished, moved, mapped, written_over, steps_few, numbered_still, hands_back, handed_as, summed, still_few, still_fits}
use Rattle.branch_workers.proofs.all.run_seated.Goals as goal

pub run_all-requires-clause-some : goal.run_all-requires-clause-some
run_all-requires-clause-some g c =
    let a = ap (λ (ss : List (SeatTold CourseTold)). length ss) c.in-Ok-staff.ensures.seats in
    let b = length-map c.in-Ok-staff.workers.items (λ w. w.seat) in
    omega (arith, c.requires.some.0, c.as_mut_slice.ensures.len)

pub run_all-requires-clause-work : goal.run_all-requires-clause-work
run_all-requires-clause-work g c = λ κs lives.
    let k : CourseTold = c.args.shift.now.course.now.value in
    let sh = c.args.shift.now.shelf.now in
    let ws = c.in-Ok-staff.workers.items in
    let made = c.in-Ok-staff.ensures in
    moved c.as_mut_slice.result.now ws c.as_mut_slice.ensures.value (λ w. IsAtWork k c.args.shift.now.keep sh w.number w.seat w.steps w.outcomes.items w.lane.own.view.pushed)
    (ready ws k c.args.shift.now.keep sh (λ w. w.seat) (λ w. w.steps) (λ w. w.number) (λ w. w.outcomes) (λ w. w.lane) (λ w. w.finished) (subst IsCourse c.deref.ensures c.know_course.ensures) ws
    c.args.seats.items made.seats c.requires.new made.numbers c.in-Ok.lanes.items made.lanes
    (subst (λ (x : CourseTold). All (λ (l : LaneTold). HasPushed x.plan [] l.own.view.pushed) c.in-Ok.lanes.items) c.deref-2.ensures c.in-Ok.ensures.pushed) made.idle)

pub run_all-requires-clause-finished : goal.run_all-requires-clause-finished
run_all-requires-clause-finished g c = λ κs lives.
    let ws = c.in-Ok-staff.workers.items in
    moved c.as_mut_slice.result.now ws c.as_mut_slice.ensures.value (λ w. w.finished ≡ false)
    (unfinished ws c.args.shift.now.course.now.value c.args.shift.now.keep c.args.shift.now.shelf.now (λ w. w.seat) (λ w. w.steps) (λ w. w.number) (λ w. w.outcomes) (λ w. w.lane) (λ w. w.finished) ws c.in-Ok-staff.ensures.idle)

-- The workers' list has what all left there.
pub gather-steps-requires-clause-each : goal.gather-steps-requires-clause-each
gather-steps-requires-clause-each g c =
    let ws = c.run_all.new.workers in
    let long : length ws ≡ c.in-Ok-staff.workers.len = omega (arith, c.run_all.auto.workers, c.as_mut_slice.ensures.len) in
    moved _ ws (written_over ws _ c.in-Ok-staff.workers.len long) (λ w. w.steps < 2 ^ 52)
    (steps_few ws c.args.shift.now.course.now.value c.args.shift.now.keep c.args.shift.now.shelf.now (λ w. w.seat) (λ w. w.steps) (λ w. w.number) (λ w. w.outcomes) (λ w. w.lane) (λ w. w.finished) ws c.run_all.ensures.ended)

pub gather-steps-requires-clause-few : goal.gather-steps-requires-clause-few
gather-steps-requires-clause-few g c =
    let ws = c.run_all.new.workers in
    let long : length ws ≡ c.in-Ok-staff.workers.len = omega (arith, c.run_all.auto.workers, c.as_mut_slice.ensures.len) in
    let kept : length ws ≡ length c.as_mut_slice.result.now = omega (arith, c.as_mut_slice.ensures.len) in
    let same : length c.as_mut_slice.result.now ≡ length c.in-Ok-staff.workers.items = ap (λ ys. length ys) c.as_mut_slice.ensures.value in
    let a = ap (λ (ss : List (SeatTold CourseTold)). length ss) c.in-Ok-staff.ensures.seats in
    let b = length-map c.in-Ok-staff.workers.items (λ w. w.seat) in
    still_few _ ws (written_over ws _ c.in-Ok-staff.workers.len long) 64 (omega (arith, c.requires.some.1))

pub gather-steps-requires-clause-seats : goal.gather-steps-requires-clause-seats
gather-steps-requires-clause-seats g c =
    let ws = c.run_all.new.workers in
    let long : length ws ≡ c.in-Ok-staff.workers.len = omega (arith, c.run_all.auto.workers, c.as_mut_slice.ensures.len) in
    let kept : length ws ≡ length c.as_mut_slice.result.now = omega (arith, c.as_mut_slice.ensures.len) in
    let same : length c.as_mut_slice.result.now ≡ length c.in-Ok-staff.workers.items = ap (λ ys. length ys) c.as_mut_slice.ensures.value in
    let a = ap (λ (ss : List (SeatTold CourseTold)). length ss) c.in-Ok-staff.ensures.seats in
    let b = length-map c.in-Ok-staff.workers.items (λ w. w.seat) in
    (c.in-Ok-new.ensures.seats.0, still_fits _ ws (written_over ws _ c.in-Ok-staff.workers.len long) _ _ (omega (arith, c.in-Ok-new.ensures.seats.1)))

pub gather-steps-requires-clause-outcomes : goal.gather-steps-requires-clause-outcomes
gather-steps-requires-clause-outcomes g c =
    let ws = c.run_all.new.workers in
    let long : length ws ≡ c.in-Ok-staff.workers.len = omega (arith, c.run_all.auto.workers, c.as_mut_slice.ensures.len) in
    let kept : length ws ≡ length c.as_mut_slice.result.now = omega (arith, c.as_mut_slice.ensures.len) in
    let same : length c.as_mut_slice.result.now ≡ length c.in-Ok-staff.workers.items = ap (λ ys. length ys) c.as_mut_slice.ensures.value in
    let a = ap (λ (ss : List (SeatTold CourseTold)). length ss) c.in-Ok-staff.ensures.seats in
    let b = length-map c.in-Ok-staff.workers.items (λ w. w.seat) in
    (c.in-Ok-new.ensures.outcomes.0, still_fits _ ws (written_over ws _ c.in-Ok-staff.workers.len long) _ _ (omega (arith, c.in-Ok-new.ensures.outcomes.1)))

pub returns : goal.returns
returns g c =
    let k : CourseTold = c.args.shift.now.course.now.value in
    let sh = c.args.shift.now.shelf.now in
    let ws = c.run_all.new.workers in
    let vs = c.in-Ok-staff.workers.items in
    let us = c.as_mut_slice.result.now in
    let made = c.in-Ok-staff.ensures in
    let long : length ws ≡ c.in-Ok-staff.workers.len = omega (arith, c.run_all.auto.workers, c.as_mut_slice.ensures.len) in
    let over = written_over ws _ c.in-Ok-staff.workers.len long in
    let kept : length ws ≡ length us = omega (arith, c.as_mut_slice.ensures.len) in
    let same : length us ≡ length vs = ap (λ ys. length ys) c.as_mut_slice.ensures.value in
    let a = ap (λ (ss : List (SeatTold CourseTold)). length ss) made.seats in
    let b = length-map vs (λ w. w.seat) in
    let numbers = numbered_still ws k c.args.shift.now.keep sh (λ w. w.seat) (λ w. w.steps) (λ w. w.number) (λ w. w.outcomes) (λ w. w.lane) (λ w. w.finished) ws us kept c.run_all.ensures.numbers
    (subst AreNumbered (sym (mapped us vs c.as_mut_slice.ensures.value (λ w. w.number))) made.numbers) in
    handed_as k c.args.shift.now.keep sh (map (λ w. w.seat) ws) c.gather-steps.new.back.seats.items (c.gather-steps.ensures.seats ∙ mapped _ ws over (λ w. w.seat))
    (map (λ w. w.outcomes) ws) c.gather-steps.new.back.outcomes.items (c.gather-steps.ensures.outcomes ∙ mapped _ ws over (λ w. w.outcomes))
    c.gather-steps.new.back.finished (sum_by (λ w. w.steps) ws) c.gather-steps.result (c.gather-steps.ensures.steps ∙ summed _ ws over (λ w. w.steps))
    (hands_back ws k c.args.shift.now.keep sh (λ w. w.seat) (λ w. w.steps) (λ w. w.number) (λ w. w.outcomes) (λ w. w.lane) (λ w. w.finished) ws (omega (arith, c.requires.all)) numbers
    c.run_all.ensures.ended c.run_all.ensures.finished c.run_all.ensures.counted c.gather-steps.new.back.finished
    (λ all. moved ws _ (sym over) (λ w. w.finished ≡ true) (c.gather-steps.ensures.finished all)))
