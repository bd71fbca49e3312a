use Rattle.std.proofs.Common.{Result, Ok, Err, OnErr, ℕ, ◌+◌, ◌<◌, List, length, sym, ap, ◌∙◌, subst, arith}
use Rattle.market_floor.specs.declared.opening.Opening.{Opening}
use Rattle.kernel_copy.specs.Closing.{closing_at}
use Rattle.kernel_copy.specs.Courses.{CourseTold, IsCourse}
use Rattle.kernel_copy.specs.Ran.{RanTold, ran_told}
use Rattle.kernel_copy.proofs.Adding.{outcome-is, ran-ends}
use Rattle.shelf_core.specs.Views.{times}
use Rattle.shelf_core.specs.declared.seat.SeatView.{SeatView}
use Rattle.shelf_core.proofs.Staying.{stays_then}
use Rattle.branch_workers.proofs.Remaining.{remains_of, remains_counted, states_counted}
use Rattle.branch_workers.proofs.segment.run_segment.Goals as goal

pub shelve_end-requires-clause-state : goal.shelve_end-requires-clause-state
shelve_end-requires-clause-state g c =
    let x : RanTold = ran_told c.in-Ok.ran in
    ran-ends c.args.shift.now.course.now.value c.args.shift.now.keep c.args.segment x (subst IsCourse c.deref.ensures c.know_course.ensures) c.requires.segment c.in-Ok.ensures.ran

pub returns-clause-outcome : goal.returns-clause-outcome
returns-clause-outcome g c =
    let k : CourseTold = c.args.shift.now.course.now.value in
    let x : RanTold = ran_told c.in-Ok.ran in
    let opening = c.opening.ensures.value ∙ ap (λ (x : CourseTold). x.opening) c.deref-2.ensures in
    let tells = c.in-Ok-outcome_at.ensures in
    outcome-is k c.args.shift.now.keep c.args.segment x _ _ _ _ (subst IsCourse c.deref.ensures c.know_course.ensures) c.requires.segment c.in-Ok.ensures.ran tells.segment tells.kept tells.events
    (tells.closing ∙ ap (λ (o : Opening). closing_at o c.in-Ok.ran.kernel) opening)

pub returns-in_default-clause-remains : goal.returns-in_default-clause-remains
returns-in_default-clause-remains g c =
    remains_of c.args.seat.now.view c.advance-made.new.seat.view c.advance-made.ensures.stays

pub returns-in_default-shelve_end-clause-remains : goal.returns-in_default-shelve_end-clause-remains
returns-in_default-shelve_end-clause-remains g c =
    remains_of c.args.seat.now.view c.shelve_end.new.seat.view
    (stays_then c.args.seat.now.view c.advance-made.new.seat.view c.shelve_end.new.seat.view c.advance-made.ensures.stays c.shelve_end.ensures.stays)

pub returns-in_default-outcome_at-clause-remains : goal.returns-in_default-outcome_at-clause-remains
returns-in_default-outcome_at-clause-remains g c =
    remains_of c.args.seat.now.view c.shelve_end.new.seat.view
    (stays_then c.args.seat.now.view c.advance-made.new.seat.view c.shelve_end.new.seat.view c.advance-made.ensures.stays c.shelve_end.ensures.stays)

pub returns-clause-remains : goal.returns-clause-remains
returns-clause-remains g c =
    remains_counted c.args.seat.now.view c.shelve_end.new.seat.view c.count.new.seat.view
    (stays_then c.args.seat.now.view c.advance-made.new.seat.view c.shelve_end.new.seat.view c.advance-made.ensures.stays c.shelve_end.ensures.stays)
    c.count.ensures.counted

pub returns-clause-states : goal.returns-clause-states
returns-clause-states g c =
    states_counted c.args.shift.now.course.now.value c.args.shift.now.shelf.now.plan c.args.segment c.advance-made.new.seat.view c.shelve_end.new.seat.view c.count.new.seat.view
    c.shelve_end.ensures.stays c.count.ensures.counted c.in-Ok.ensures.found c.in-Ok-shelve_end.ensures.known c.in-Ok.ensures.grid

pub returns-clause-counted : goal.returns-clause-counted
returns-clause-counted g c =
    let stays = stays_then c.args.seat.now.view c.advance-made.new.seat.view c.shelve_end.new.seat.view c.advance-made.ensures.stays c.shelve_end.ensures.stays in
    ap (λ (v : SeatView). v.counts) c.count.ensures.counted ∙ ap (λ (n : ℕ). n + 1) stays.counts

pub returns-clause-turns : goal.returns-clause-turns
returns-clause-turns g c = ap (λ (v : SeatView). v.turns) c.count.ensures.counted ∙ c.shelve_end.ensures.turns

pub returns-in_default-clause-uncounted : goal.returns-in_default-clause-uncounted
returns-in_default-clause-uncounted g c = c.advance-made.ensures.stays.counts

pub returns-in_default-shelve_end-clause-uncounted : goal.returns-in_default-shelve_end-clause-uncounted
returns-in_default-shelve_end-clause-uncounted g c =
    (stays_then c.args.seat.now.view c.advance-made.new.seat.view c.shelve_end.new.seat.view c.advance-made.ensures.stays c.shelve_end.ensures.stays).counts

pub returns-in_default-outcome_at-clause-uncounted : goal.returns-in_default-outcome_at-clause-uncounted
returns-in_default-outcome_at-clause-uncounted g c =
    (stays_then c.args.seat.now.view c.advance-made.new.seat.view c.shelve_end.new.seat.view c.advance-made.ensures.stays c.shelve_end.ensures.stays).counts

pub shelve_end-requires-clause-claim : goal.shelve_end-requires-clause-claim
shelve_end-requires-clause-claim g c = subst (λ (claims : List ℕ). 0 < times c.args.segment claims) (sym c.advance-made.ensures.stays.claims) c.requires.claim

pub count-requires-clause-more : goal.count-requires-clause-more
count-requires-clause-more g c =
    let stays = stays_then c.args.seat.now.view c.advance-made.new.seat.view c.shelve_end.new.seat.view c.advance-made.ensures.stays c.shelve_end.ensures.stays in
    omega (arith, c.requires.more, stays.counts, ap (λ (claims : List ℕ). length claims) stays.claims)

pub advance-made-requires-clause-claim : goal.advance-made-requires-clause-claim
advance-made-requires-clause-claim g c = c.requires.claim

pub advance-made-requires-clause-seat : goal.advance-made-requires-clause-seat
advance-made-requires-clause-seat g c = c.requires.seat

pub advance-made-requires-clause-segment : goal.advance-made-requires-clause-segment
advance-made-requires-clause-segment g c = c.requires.segment

pub advance-made-requires-clause-shelf : goal.advance-made-requires-clause-shelf
advance-made-requires-clause-shelf g c = c.requires.shelf

pub advance-made-requires-clause-turns : goal.advance-made-requires-clause-turns
advance-made-requires-clause-turns g c = c.requires.turns

pub count-requires-clause-seat : goal.count-requires-clause-seat
count-requires-clause-seat g c = c.shelve_end.ensures.same ∙ c.advance-made.ensures.same ∙ c.requires.seat

pub shelve_end-requires-clause-seat : goal.shelve_end-requires-clause-seat
shelve_end-requires-clause-seat g c = c.advance-made.ensures.same ∙ c.requires.seat

pub shelve_end-requires-clause-segment : goal.shelve_end-requires-clause-segment
shelve_end-requires-clause-segment g c = c.requires.segment

pub shelve_end-requires-clause-shelf : goal.shelve_end-requires-clause-shelf
shelve_end-requires-clause-shelf g c = c.requires.shelf

pub shelve_end-requires-clause-turns : goal.shelve_end-requires-clause-turns
shelve_end-requires-clause-turns g c = c.advance-made.ensures.turns

pub returns-clause-same : goal.returns-clause-same
returns-clause-same g c = c.count.ensures.same ∙ c.shelve_end.ensures.same ∙ c.advance-made.ensures.same

pub returns-in_default-clause-same : goal.returns-in_default-clause-same
returns-in_default-clause-same g c = c.advance-made.ensures.same

pub returns-in_default-clause-turns : goal.returns-in_default-clause-turns
returns-in_default-clause-turns g c = c.advance-made.ensures.turns

pub returns-in_default-shelve_end-clause-same : goal.returns-in_default-shelve_end-clause-same
returns-in_default-shelve_end-clause-same g c = c.shelve_end.ensures.same ∙ c.advance-made.ensures.same

pub returns-in_default-shelve_end-clause-turns : goal.returns-in_default-shelve_end-clause-turns
returns-in_default-shelve_end-clause-turns g c = c.shelve_end.ensures.turns

pub returns-in_default-outcome_at-clause-same : goal.returns-in_default-outcome_at-clause-same
returns-in_default-outcome_at-clause-same g c = c.shelve_end.ensures.same ∙ c.advance-made.ensures.same

pub returns-in_default-outcome_at-clause-turns : goal.returns-in_default-outcome_at-clause-turns
returns-in_default-outcome_at-clause-turns g c = c.shelve_end.ensures.turns

pub returns-clause-rose : goal.returns-clause-rose
returns-clause-rose g c = omega (arith, c.join.ensures, c.split-own.ensures, c.in-Ok.ensures.rose)

pub returns-clause-most : goal.returns-clause-most
returns-clause-most g c = omega (arith, c.join.ensures, c.split-own.ensures, c.advance-made.ensures.most)

pub returns-clause-least : goal.returns-clause-least
returns-clause-least g c = omega (arith, c.join.ensures, c.split-own.ensures, c.advance-made.ensures.least)

pub returns-in_default-clause-most : goal.returns-in_default-clause-most
returns-in_default-clause-most g c = omega (arith, c.join.ensures, c.split-own.ensures, c.advance-made.ensures.most)

pub returns-in_default-clause-least : goal.returns-in_default-clause-least
returns-in_default-clause-least g c = omega (arith, c.join.ensures, c.split-own.ensures, c.advance-made.ensures.least)

pub returns-in_default-shelve_end-clause-most : goal.returns-in_default-shelve_end-clause-most
returns-in_default-shelve_end-clause-most g c = omega (arith, c.join.ensures, c.split-own.ensures, c.advance-made.ensures.most)

pub returns-in_default-shelve_end-clause-least : goal.returns-in_default-shelve_end-clause-least
returns-in_default-shelve_end-clause-least g c = omega (arith, c.join.ensures, c.split-own.ensures, c.advance-made.ensures.least)

pub returns-in_default-outcome_at-clause-most : goal.returns-in_default-outcome_at-clause-most
returns-in_default-outcome_at-clause-most g c = omega (arith, c.join.ensures, c.split-own.ensures, c.advance-made.ensures.most)

pub returns-in_default-outcome_at-clause-least : goal.returns-in_default-outcome_at-clause-least
returns-in_default-outcome_at-clause-least g c = omega (arith, c.join.ensures, c.split-own.ensures, c.advance-made.ensures.least)
