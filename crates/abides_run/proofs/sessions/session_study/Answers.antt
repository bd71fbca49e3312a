use Rattle.std.proofs.Common.{arith, ◌≡◌, ◌≤◌, ◌∙◌, All, List, None, Ok, Result, length, sym, ap, subst}
use Rattle.kernel_copy.specs.Courses.{CourseTold}
use Rattle.session_desk.specs.declared.act.Act.{Act}
use Rattle.session_desk.specs.declared.act.ScriptError.{ScriptError}
use Rattle.session_desk.specs.Fitting.{FitsOpening}
use Rattle.session_desk.specs.Script.{script_of}
use Rattle.session_desk.specs.Session.{first_session}
use Rattle.session_desk.specs.Refused.{act_refused}
use Rattle.study_rules.specs.Accepted.{study_told}
use Rattle.abides_run.specs.Sessions.{act_words}
use Rattle.abides_run.specs.Verdict.{verdict_on_session}
use Rattle.abides_run.proofs.Carrying.{acts-finish, numbers-alone, refused-act-finishes, unread-script-finishes}
use Rattle.abides_run.proofs.Finishing.{wanting-finishes}
use Rattle.abides_run.proofs.sessions.session_study.Goals as goal

pub first_refused-requires-clause-numbers : goal.first_refused-requires-clause-numbers
first_refused-requires-clause-numbers g c =
    let k : CourseTold = c.args.simulation.now.study.course.value in
    c.branches_fork_by_number.ensures k.plan.branches (numbers-alone k c.args.text.now c.in-Ok.acts.items c.in-Ok.ensures.acts)

pub reach_and_answer-ending-requires-clause-numbers : goal.reach_and_answer-ending-requires-clause-numbers
reach_and_answer-ending-requires-clause-numbers g c κs within =
    let k : CourseTold = c.args.simulation.now.study.course.value in
    c.branches_fork_by_number.ensures k.plan.branches (numbers-alone k c.args.text.now c.in-Ok.acts.items c.in-Ok.ensures.acts)

pub returns-in-Ok-None : goal.returns-in-Ok-None
returns-in-Ok-None g c =
    let k : CourseTold = c.args.simulation.now.study.course.value in
    let acts = c.deref-in-Ok-None.result.now in
    let said : ◌≡◌ {A = Result (List Act) ScriptError} (script_of k c.args.text.now) (Ok acts) = c.in-Ok.ensures.acts ∙ ap (λ (xs : List Act). Ok xs) (sym c.deref-in-Ok-None.ensures.value) in
    let none : act_refused (first_session k) acts ≡ None =
    ap (λ (xs : List Act). act_refused (first_session k) xs) (c.deref-in-Ok-None.ensures.value ∙ sym c.deref.ensures.value) ∙ sym c.in-Ok-None.ensures.first ∙ c.in-Ok-None.field-0-is in
    λ reads. acts-finish c.args.simulation.now.places c.args.text.now (study_told c.args.simulation.now.study) acts _ _ _ c.reach_and_answer-ending.result.status _ said none (c.reach_and_answer-ending.ensures reads)

pub returns-in-Err : goal.returns-in-Err
returns-in-Err g c =
    λ reads. unread-script-finishes c.in-Err.error c.args.simulation.now.places c.args.text.now (study_told c.args.simulation.now.study) _ reads (g.O.Sink.faults c.args.out.now) c.args.steps.now (g.O.Sink.taken c.args.out.now) c.nameless.result.status _
    c.in-Err.ensures.refused (c.nameless.ensures ∙ c.status_for.ensures)

pub returns-in-Ok-Some : goal.returns-in-Ok-Some
returns-in-Ok-Some g c =
    let k : CourseTold = c.args.simulation.now.study.course.value in
    λ reads. refused-act-finishes c.in-Ok-Some.act c.args.simulation.now.places c.args.text.now (study_told c.args.simulation.now.study) c.in-Ok.acts.items _ reads (g.O.Sink.faults c.args.out.now) c.args.steps.now (g.O.Sink.taken c.args.out.now) c.nameless-in-Ok-Some.result.status _
    c.in-Ok.ensures.acts
    (ap (λ (xs : List Act). act_refused (first_session k) xs) (sym c.deref.ensures.value) ∙ sym c.in-Ok-Some.ensures.first ∙ c.in-Ok-Some.field-0-is)
    c.nameless-in-Ok-Some.ensures

pub returns-in-Err-first_refused : goal.returns-in-Err-first_refused
returns-in-Err-first_refused g c =
    λ reads. wanting-finishes (verdict_on_session c.args.simulation.now.places c.args.text.now (study_told c.args.simulation.now.study)) _ act_words reads (g.O.Sink.faults c.args.out.now) c.args.steps.now c.args.steps.now (g.O.Sink.taken c.args.out.now) c.nameless-in-Err-first_refused.result.status _
    c.nameless-in-Err-first_refused.ensures (omega arith) (omega arith)

pub first_refused-requires-clause-fit : goal.first_refused-requires-clause-fit
first_refused-requires-clause-fit g c =
    subst (λ (xs : List Act). All (FitsOpening c.args.simulation.now.study.course.value.opening) xs) (sym c.deref.ensures.value) c.in-Ok.ensures.fit

pub first_refused-requires-clause-few : goal.first_refused-requires-clause-few
first_refused-requires-clause-few g c = subst (λ (xs : List Act). length xs ≤ 64) (sym c.deref.ensures.value) c.in-Ok.ensures.few

pub reach_and_answer-ending-requires-clause-fit : goal.reach_and_answer-ending-requires-clause-fit
reach_and_answer-ending-requires-clause-fit g c κs within =
    subst (λ (xs : List Act). All (FitsOpening c.args.simulation.now.study.course.value.opening) xs) (sym c.deref-in-Ok-None.ensures.value) c.in-Ok.ensures.fit

pub reach_and_answer-ending-requires-clause-few : goal.reach_and_answer-ending-requires-clause-few
reach_and_answer-ending-requires-clause-few g c κs within = subst (λ (xs : List Act). length xs ≤ 64) (sym c.deref-in-Ok-None.ensures.value) c.in-Ok.ensures.few

pub reach_and_answer-ending-requires-clause-stands : goal.reach_and_answer-ending-requires-clause-stands
reach_and_answer-ending-requires-clause-stands g c κs within =
    let k : CourseTold = c.args.simulation.now.study.course.value in
    ap (λ (xs : List Act). act_refused (first_session k) xs) (c.deref-in-Ok-None.ensures.value ∙ sym c.deref.ensures.value) ∙ sym c.in-Ok-None.ensures.first ∙ c.in-Ok-None.field-0-is
