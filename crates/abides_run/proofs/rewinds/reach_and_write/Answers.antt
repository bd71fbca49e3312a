use Rattle.std.proofs.Common.{◌≡◌, ◌<◌, ◌≤◌, ◌+◌, ◌∙◌, ℕ, List, None, Some, length, sum_by, sym, ap, arith}
use Rattle.kernel_copy.specs.Courses.{CourseTold}
use Rattle.rewind_desk.specs.Targets.{past_of}
use Rattle.study_rules.specs.Accepted.{study_told}
use Rattle.abides_run.specs.Output.{study_events}
use Rattle.abides_run.specs.Rewinds.{lasts_of, rewinds_of, steps_from, steps_to}
use Rattle.abides_run.proofs.Aiming.{are-there, below-lasts, few-steps, past-below, sum-fewer, targets-within, word-among}
use Rattle.abides_run.proofs.Finishing.{aimed-eventless, aimed-finishes, aimed-wanting}
use Rattle.abides_run.proofs.Performing.{sent_done}
use Rattle.abides_run.proofs.rewinds.reach_and_write.Goals as goal

pub returns-in-Err : goal.returns-in-Err
returns-in-Err g c =
    λ reads probes. aimed-wanting c.args.marks.now c.args.simulation.now.places (study_told c.args.simulation.now.study) c.args.targets.now probes _ reads (g.O.Sink.faults c.args.out.now) c.args.steps.now c.simulate_kept.new.steps (g.O.Sink.taken c.args.out.now) c.nameless.result.status _
    c.requires.targets c.nameless.ensures c.simulate_kept.ensures.least c.simulate_kept.ensures.most

pub first_past-requires : goal.first_past-requires
first_past-requires g c =
    let k : CourseTold = c.args.simulation.now.study.course.value in
    let lasts : c.deref.result.now ≡ lasts_of k = c.deref.ensures.value ∙ c.in-Ok.ensures.lasts in
    below-lasts k c.args.marks.now c.args.targets.now c.deref.result.now c.requires.marks.each c.requires.targets lasts

pub word_of-requires : goal.word_of-requires
word_of-requires g c =
    let k : CourseTold = c.args.simulation.now.study.course.value in
    let ts = c.args.targets.now in
    let lasts : c.deref.result.now ≡ lasts_of k = c.deref.ensures.value ∙ c.in-Ok.ensures.lasts in
    let found : past_of (lasts_of k) ts ≡ Some c.in-Some.past = ap (λ (l : List ℕ). past_of l ts) (sym lasts) ∙ sym c.in-Some.ensures in
    omega (arith, past-below (lasts_of k) ts c.in-Some.past found, (targets-within k.plan.branches c.args.marks.now ts c.requires.marks.each c.requires.targets).0)

pub returns-in-Some : goal.returns-in-Some
returns-in-Some g c =
    let k : CourseTold = c.args.simulation.now.study.course.value in
    let ts = c.args.targets.now in
    let marks = c.args.marks.now in
    let past = c.in-Some.past in
    let lasts : c.deref.result.now ≡ lasts_of k = c.deref.ensures.value ∙ c.in-Ok.ensures.lasts in
    let found : past_of (lasts_of k) ts ≡ Some past = ap (λ (l : List ℕ). past_of l ts) (sym lasts) ∙ sym c.in-Some.ensures in
    let within : past.index < length marks = omega (arith, past-below (lasts_of k) ts past found, (targets-within k.plan.branches marks ts c.requires.marks.each c.requires.targets).0) in
    λ reads probes. aimed-eventless marks c.args.simulation.now.places (study_told c.args.simulation.now.study) ts past probes _ reads (g.O.Sink.faults c.args.out.now) c.args.steps.now c.simulate_kept.new.steps (g.O.Sink.taken c.args.out.now) c.no_event.result.status _
    c.requires.targets found (rw c.word_of.ensures at c.no_event.ensures) c.in-Ok.ensures.rose (word-among marks past.index within)

pub send_rewinds-sent-requires-clause-few : goal.send_rewinds-sent-requires-clause-few
send_rewinds-sent-requires-clause-few g c =
    let k : CourseTold = c.args.simulation.now.study.course.value in
    omega (arith, (targets-within k.plan.branches c.args.marks.now c.args.targets.now c.requires.marks.each c.requires.targets).0, c.requires.marks.few)

pub send_rewinds-sent-requires-clause-there : goal.send_rewinds-sent-requires-clause-there
send_rewinds-sent-requires-clause-there g c =
    let k : CourseTold = c.args.simulation.now.study.course.value in
    let ts = c.args.targets.now in
    let lasts : c.deref.result.now ≡ lasts_of k = c.deref.ensures.value ∙ c.in-Ok.ensures.lasts in
    let none : past_of (lasts_of k) ts ≡ None = ap (λ (l : List ℕ). past_of l ts) (sym lasts) ∙ sym c.in_default.ensures in
    are-there k ts (targets-within k.plan.branches c.args.marks.now ts c.requires.marks.each c.requires.targets).1 none

pub send_rewinds-sent-requires-clause-count : goal.send_rewinds-sent-requires-clause-count
send_rewinds-sent-requires-clause-count g c =
    let k : CourseTold = c.args.simulation.now.study.course.value in
    let ts = c.args.targets.now in
    let within = targets-within k.plan.branches c.args.marks.now ts c.requires.marks.each c.requires.targets in
    omega (arith, few-steps c.in-Ok.simulated.shelf (length k.plan.branches) ts within.1 (omega (arith, within.0, c.requires.marks.few)), c.simulate_kept.ensures.few, c.in-Ok.ensures.rose, c.requires.steps)

pub returns : goal.returns
returns g c =
    let k : CourseTold = c.args.simulation.now.study.course.value in
    let s = study_told c.args.simulation.now.study in
    let ts = c.args.targets.now in
    let shelf = c.in-Ok.simulated.shelf in
    let lasts : c.deref.result.now ≡ lasts_of k = c.deref.ensures.value ∙ c.in-Ok.ensures.lasts in
    let none : past_of (lasts_of k) ts ≡ None = ap (λ (l : List ℕ). past_of l ts) (sym lasts) ∙ sym c.in_default.ensures in
    let saved : sum_by (steps_from shelf) ts ≤ sum_by (steps_to s c.args.simulation.now.places) ts = sum-fewer (steps_from shelf) (steps_to s c.args.simulation.now.places) ts c.in-Ok.ensures.near in
    λ reads probes. aimed-finishes c.args.marks.now c.args.simulation.now.places s ts probes _ _ _ _ c.nameless-2.result.status _
    c.requires.targets none c.nameless-2.ensures
    (sent_done (rewinds_of k ts) (study_events k) (sum_by (steps_to s c.args.simulation.now.places) ts) (study_events k + sum_by (steps_to s c.args.simulation.now.places) ts) reads (g.O.Sink.faults c.args.out.now) (g.O.Sink.faults c.send_rewinds-sent.new.out) c.args.steps.now c.send_rewinds-sent.new.steps (g.O.Sink.taken c.args.out.now) (g.O.Sink.taken c.send_rewinds-sent.new.out)
    c.send_rewinds-sent.result c.sent_status.result c.sent_status.ensures.ok c.sent_status.ensures.refused
    (omega (arith, c.in-Ok.ensures.rose, c.send_rewinds-sent.ensures.least)) (omega (arith, c.in-Ok.ensures.rose, c.send_rewinds-sent.ensures.most, saved)) (omega (arith, c.in-Ok.ensures.rose, c.send_rewinds-sent.ensures.most, saved)) c.send_rewinds-sent.ensures.sent)
