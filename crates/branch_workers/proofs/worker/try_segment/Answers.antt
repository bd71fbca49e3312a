use Rattle.std.proofs.Common.{◌<◌, ◌++◌, ◌∷◌, [], ℕ, List, All, true≢false, length, sym, ap, ◌∙◌, subst, arith, refl}
use Rattle.branch_tree.specs.Segments.{segments_in, children_of}
use Rattle.shelf_core.specs.declared.seat.SeatView.{SeatView}
use Rattle.kernel_copy.specs.Courses.{CourseTold}
use Rattle.kernel_copy.specs.declared.run.Outcome.{Outcome}
use Rattle.kernel_copy.proofs.Adding.{own-bound}
use Rattle.branch_workers.specs.Workers.{IsAtWork}
use Rattle.branch_workers.proofs.Children.{are_below}
use Rattle.branch_workers.proofs.Standing.{claims_few, claimed_more, stays_at_work, fails, ran, stops_ended, pushes_few}
use Rattle.branch_workers.proofs.worker.try_segment.Goals as goal

pub run_segment-requires-clause-more : goal.run_segment-requires-clause-more
run_segment-requires-clause-more g c =
    let w = c.args.worker.now in
    claimed_more w.seat.view c.claim.new.seat.view c.args.segment (c.claim.ensures.claimed c.if-not-claim.false).0 c.requires.work.counts

pub run_segment-requires-clause-turns : goal.run_segment-requires-clause-turns
run_segment-requires-clause-turns g c = ap (λ (v : SeatView). v.turns) (c.claim.ensures.claimed c.if-not-claim.false).0 ∙ c.requires.work.turns

pub run_segment-requires-clause-count : goal.run_segment-requires-clause-count
run_segment-requires-clause-count g c =
    let k : CourseTold = c.args.shift.now.course.now.value in
    let h = c.requires.work in
    let f = claims_few k c.args.worker.now.seat.view.claims h.course h.claims in
    let own = own-bound k c.args.segment h.course (omega (arith, c.requires.segment, c.requires.room)) in
    let e = h.counted in omega arith

pub push_children-requires-clause-segment : goal.push_children-requires-clause-segment
push_children-requires-clause-segment g c =
    let e = ap (λ (k : CourseTold). length (segments_in k.plan)) c.deref.ensures in
    omega (arith, c.requires.segment, c.requires.room)

pub push_children-requires-clause-few : goal.push_children-requires-clause-few
push_children-requires-clause-few g c =
    let k : CourseTold = c.args.shift.now.course.now.value in
    let w = c.args.worker.now in
    let h = c.requires.work in
    let e = ap (λ (x : CourseTold). length (children_of x.plan c.args.segment)) c.deref.ensures in
    let f = pushes_few k w.seat.view.claims w.lane.own.view.pushed c.args.segment h.claims h.lane (omega (arith, c.requires.segment, c.requires.room)) (c.claim.ensures.claimed c.if-not-claim.false).1 in
    omega (arith, c.requires.room)

pub push_children-requires-clause-below : goal.push_children-requires-clause-below
push_children-requires-clause-below g c =
    let k : CourseTold = c.args.shift.now.course.now.value in
    subst (λ (x : CourseTold). All (λ n. n < g.B.Room.room) (children_of x.plan c.args.segment)) (sym c.deref.ensures)
    (subst (λ (m : ℕ). All (λ n. n < m) (children_of k.plan c.args.segment)) (sym c.requires.room) (are_below k.plan c.args.segment))

pub returns-then-not-claim-clause-work : goal.returns-then-not-claim-clause-work
returns-then-not-claim-clause-work g c = λ _.
    let w = c.args.worker.now in
    let kept = c.claim.ensures.kept c.if-not-claim.true in
    stays_at_work c.args.shift.now.course.now.value c.args.shift.now.keep c.args.shift.now.shelf.now w.number w.seat w.steps w.outcomes.items w.lane.own.view.pushed c.requires.work c.claim.new.seat c.claim.ensures.same kept.0 kept.1

pub returns-in_default-clause-ended : goal.returns-in_default-clause-ended
returns-in_default-clause-ended g c = λ _.
    let k : CourseTold = c.args.shift.now.course.now.value in
    let w = c.args.worker.now in
    let claimed = c.claim.ensures.claimed c.if-not-claim.false in
    let at = c.run_segment.ensures.same ∙ c.claim.ensures.same in
    let e = fails k c.args.shift.now.keep c.args.shift.now.shelf.now w.number w.seat w.steps w.outcomes.items w.lane.own.view.pushed c.requires.work c.args.segment (omega (arith, c.requires.segment, c.requires.room)) claimed.1 c.claim.new.seat.view claimed.0
    c.run_segment.new.seat at c.run_segment.ensures.remains c.run_segment.ensures.turns c.run_segment.new.steps c.run_segment.ensures.most in
    stops_ended k c.args.shift.now.shelf.now w.number c.run_segment.new.seat c.run_segment.new.steps e c.stop_others.new.seat c.stop_others.ensures.same c.stop_others.ensures.stopped

pub returns-in_default-add-clause-ended : goal.returns-in_default-add-clause-ended
returns-in_default-add-clause-ended g c = λ _.
    let k : CourseTold = c.args.shift.now.course.now.value in
    let w = c.args.worker.now in
    let claimed = c.claim.ensures.claimed c.if-not-claim.false in
    let at = c.run_segment.ensures.same ∙ c.claim.ensures.same in
    let e = fails k c.args.shift.now.keep c.args.shift.now.shelf.now w.number w.seat w.steps w.outcomes.items w.lane.own.view.pushed c.requires.work c.args.segment (omega (arith, c.requires.segment, c.requires.room)) claimed.1 c.claim.new.seat.view claimed.0
    c.run_segment.new.seat at c.run_segment.ensures.remains c.run_segment.ensures.turns c.run_segment.new.steps c.run_segment.ensures.most in
    stops_ended k c.args.shift.now.shelf.now w.number c.run_segment.new.seat c.run_segment.new.steps e c.stop_others-in_default-add.new.seat c.stop_others-in_default-add.ensures.same c.stop_others-in_default-add.ensures.stopped

pub returns-clause-work : goal.returns-clause-work
returns-clause-work g c = λ _.
    let k : CourseTold = c.args.shift.now.course.now.value in
    let w = c.args.worker.now in
    let claimed = c.claim.ensures.claimed c.if-not-claim.false in
    let at = c.run_segment.ensures.same ∙ c.claim.ensures.same in
    let r = c.in-Ok.ensures in
    let s = ran k c.args.shift.now.keep c.args.shift.now.shelf.now w.number w.seat w.steps w.outcomes.items w.lane.own.view.pushed c.requires.work c.args.segment (omega (arith, c.requires.segment, c.requires.room)) claimed.1 c.claim.new.seat.view claimed.0
    c.run_segment.new.seat at c.run_segment.ensures.remains c.run_segment.ensures.turns r.counted r.states c.in-Ok.outcome r.outcome c.run_segment.new.steps r.rose in
    subst (λ (os : List Outcome). IsAtWork k c.args.shift.now.keep c.args.shift.now.shelf.now w.number c.run_segment.new.seat c.run_segment.new.steps os c.push_children.new.lane.own.view.pushed) (sym c.in-Ok-add.ensures)
    (subst (λ (ps : List ℕ). IsAtWork k c.args.shift.now.keep c.args.shift.now.shelf.now w.number c.run_segment.new.seat c.run_segment.new.steps (w.outcomes.items ++ c.in-Ok.outcome ∷ []) ps)
    (sym (c.push_children.ensures ∙ ap (λ (x : CourseTold). w.lane.own.view.pushed ++ children_of x.plan c.args.segment) c.deref.ensures)) s)

pub returns-in_default-clause-stopped : goal.returns-in_default-clause-stopped
returns-in_default-clause-stopped g c = λ _. ap (λ (v : SeatView). v.stopped) c.stop_others.ensures.stopped

pub returns-in_default-add-clause-stopped : goal.returns-in_default-add-clause-stopped
returns-in_default-add-clause-stopped g c = λ _. ap (λ (v : SeatView). v.stopped) c.stop_others-in_default-add.ensures.stopped

-- What is said of another answer.
pub returns-then-not-claim-clause-ended : goal.returns-then-not-claim-clause-ended
returns-then-not-claim-clause-ended g c = λ e. absurd (true≢false e)

pub returns-then-not-claim-clause-stopped : goal.returns-then-not-claim-clause-stopped
returns-then-not-claim-clause-stopped g c = λ e. absurd (true≢false e)

pub returns-in_default-clause-work : goal.returns-in_default-clause-work
returns-in_default-clause-work g c = λ e. absurd (true≢false (sym e))

pub returns-in_default-add-clause-work : goal.returns-in_default-add-clause-work
returns-in_default-add-clause-work g c = λ e. absurd (true≢false (sym e))

pub returns-clause-ended : goal.returns-clause-ended
returns-clause-ended g c = λ e. absurd (true≢false e)

pub returns-clause-stopped : goal.returns-clause-stopped
returns-clause-stopped g c = λ e. absurd (true≢false e)

pub run_segment-requires-clause-claim : goal.run_segment-requires-clause-claim
run_segment-requires-clause-claim g c = c.claim.ensures.mine c.if-not-claim.false

pub run_segment-requires-clause-shelf : goal.run_segment-requires-clause-shelf
run_segment-requires-clause-shelf g c = c.requires.shelf

pub returns-clause-finished : goal.returns-clause-finished
returns-clause-finished g c = refl

pub returns-clause-number : goal.returns-clause-number
returns-clause-number g c = refl

pub returns-in_default-add-clause-finished : goal.returns-in_default-add-clause-finished
returns-in_default-add-clause-finished g c = refl

pub returns-in_default-add-clause-number : goal.returns-in_default-add-clause-number
returns-in_default-add-clause-number g c = refl

pub returns-in_default-clause-finished : goal.returns-in_default-clause-finished
returns-in_default-clause-finished g c = refl

pub returns-in_default-clause-number : goal.returns-in_default-clause-number
returns-in_default-clause-number g c = refl

pub returns-then-not-claim-clause-finished : goal.returns-then-not-claim-clause-finished
returns-then-not-claim-clause-finished g c = refl

pub returns-then-not-claim-clause-number : goal.returns-then-not-claim-clause-number
returns-then-not-claim-clause-number g c = refl
