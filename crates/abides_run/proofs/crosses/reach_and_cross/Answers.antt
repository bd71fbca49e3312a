use Rattle.std.proofs.Common.{◌≡◌, ◌<◌, ◌+◌, ◌∙◌, ℕ, List, [], ◌∷◌, None, Some, length, sym, ap, arith}
use Rattle.std.proofs.lemmas.List.Elements.{All-cons, All-head, All-nil}
use Rattle.kernel_copy.specs.Courses.{CourseTold}
use Rattle.reopening_desk.specs.Reopened.{reopened}
use Rattle.rewind_desk.specs.Targets.{past_of}
use Rattle.rewind_desk.specs.declared.target.Target.{Target}
use Rattle.study_rules.specs.Accepted.{study_told}
use Rattle.abides_run.specs.Output.{study_events}
use Rattle.abides_run.specs.Rewinds.{IsThere, lasts_of, steps_to, target_state}
use Rattle.abides_run.proofs.Aiming.{IsWithin, are-there, lasts-length}
use Rattle.abides_run.proofs.Crossing.{late-eventless, late-finishes, late-wanting}
use Rattle.abides_run.proofs.Performing.{sent_done}
use Rattle.abides_run.proofs.crosses.reach_and_cross.Goals as goal

pub returns-in-Err : goal.returns-in-Err
returns-in-Err g c =
    let k : CourseTold = c.args.simulation.now.study.course.value in
    let t = c.args.question.now.target in
    λ reads probes arguments among. late-wanting c.args.question.now.word.now t c.args.question.now.stock c.args.question.now.orders.now c.args.simulation.now.places (study_told c.args.simulation.now.study) (past_of (lasts_of k) (t ∷ [])) probes arguments reads (g.O.Sink.faults c.args.out.now) c.args.steps.now c.simulate_kept.new.steps (g.O.Sink.taken c.args.out.now) c.nameless.result.status _
    c.nameless.ensures c.simulate_kept.ensures.least c.simulate_kept.ensures.most

pub first_past-requires : goal.first_past-requires
first_past-requires g c =
    let k : CourseTold = c.args.simulation.now.study.course.value in
    let t = c.args.question.now.target in
    let lasts : c.deref.result.now ≡ lasts_of k = c.deref.ensures.value ∙ c.in-Ok.ensures.lasts in
    let below : t.branch < length c.deref.result.now = omega (arith, c.requires.branch, ap (λ (xs : List ℕ). length xs) lasts, lasts-length k (length k.plan.branches)) in
    All-cons (λ (x : Target). x.branch < length c.deref.result.now) t [] below (All-nil (λ (x : Target). x.branch < length c.deref.result.now))

pub returns-in-Some : goal.returns-in-Some
returns-in-Some g c =
    let k : CourseTold = c.args.simulation.now.study.course.value in
    let t = c.args.question.now.target in
    let lasts : c.deref.result.now ≡ lasts_of k = c.deref.ensures.value ∙ c.in-Ok.ensures.lasts in
    let found : past_of (lasts_of k) (t ∷ []) ≡ Some c.in-Some.past = ap (λ (l : List ℕ). past_of l (t ∷ [])) (sym lasts) ∙ sym c.in-Some.ensures in
    λ reads probes arguments among. late-eventless c.args.question.now.word.now t c.args.question.now.stock c.args.question.now.orders.now c.args.simulation.now.places (study_told c.args.simulation.now.study) c.in-Some.past probes arguments reads (g.O.Sink.faults c.args.out.now) c.args.steps.now c.simulate_kept.new.steps (g.O.Sink.taken c.args.out.now) c.no_event.result.status _
    found c.no_event.ensures c.in-Ok.ensures.rose among

pub send_cross-sent-requires-clause-there : goal.send_cross-sent-requires-clause-there
send_cross-sent-requires-clause-there g c =
    let k : CourseTold = c.args.simulation.now.study.course.value in
    let t = c.args.question.now.target in
    let lasts : c.deref.result.now ≡ lasts_of k = c.deref.ensures.value ∙ c.in-Ok.ensures.lasts in
    let none : past_of (lasts_of k) (t ∷ []) ≡ None = ap (λ (l : List ℕ). past_of l (t ∷ [])) (sym lasts) ∙ sym c.in_default.ensures in
    let within : IsWithin (length k.plan.branches) t = record { branch = c.requires.branch; event = c.requires.event } in
    All-head (IsThere k) t [] (are-there k (t ∷ []) (All-cons (IsWithin (length k.plan.branches)) t [] within (All-nil (IsWithin (length k.plan.branches)))) none)

pub returns : goal.returns
returns g c =
    let k : CourseTold = c.args.simulation.now.study.course.value in
    let s = study_told c.args.simulation.now.study in
    let t = c.args.question.now.target in
    let lasts : c.deref.result.now ≡ lasts_of k = c.deref.ensures.value ∙ c.in-Ok.ensures.lasts in
    let none : past_of (lasts_of k) (t ∷ []) ≡ None = ap (λ (l : List ℕ). past_of l (t ∷ [])) (sym lasts) ∙ sym c.in_default.ensures in
    λ reads probes arguments among. late-finishes c.args.question.now.word.now t c.args.question.now.stock c.args.question.now.orders.now c.args.simulation.now.places s probes arguments _ _ _ c.nameless-2.result.status _
    none c.nameless-2.ensures
    (sent_done (reopened (target_state k t) c.args.question.now.stock c.args.question.now.orders.now) (study_events k) (steps_to s c.args.simulation.now.places t) (study_events k + steps_to s c.args.simulation.now.places t) reads (g.O.Sink.faults c.args.out.now) (g.O.Sink.faults c.send_cross-sent.new.out) c.args.steps.now c.send_cross-sent.new.steps (g.O.Sink.taken c.args.out.now) (g.O.Sink.taken c.send_cross-sent.new.out)
    c.send_cross-sent.result c.sent_status.result c.sent_status.ensures.ok c.sent_status.ensures.refused
    (omega (arith, c.in-Ok.ensures.rose, c.send_cross-sent.ensures.least)) (omega (arith, c.in-Ok.ensures.rose, c.send_cross-sent.ensures.most, c.in-Ok.ensures.near t)) (omega (arith, c.in-Ok.ensures.rose, c.send_cross-sent.ensures.most, c.in-Ok.ensures.near t)) c.send_cross-sent.ensures.sent)
