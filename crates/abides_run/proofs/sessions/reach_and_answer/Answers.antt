use Rattle.std.proofs.Common.{◌≡◌, ◌≤◌, ◌*◌, ◌∙◌, ℕ, List, Some, length, subst, arith}
use Rattle.std.proofs.lemmas.Nat.{mul-le}
use Rattle.kernel_copy.specs.Courses.{CourseTold, IsCourse}
use Rattle.branch_workers.specs.Layout.{layout}
use Rattle.rewind_desk.specs.AfterWork.{IsAfterWork}
use Rattle.rewind_desk.specs.Best.{best, is_held}
use Rattle.session_desk.specs.Session.{first_session}
use Rattle.session_desk.specs.Counted.{Kept, all_reached, surely_kept}
use Rattle.session_desk.specs.Past.{past_act}
use Rattle.study_rules.specs.Accepted.{study_told}
use Rattle.abides_run.specs.Output.{least_reached, most_reached}
use Rattle.abides_run.specs.Performed.{Sent}
use Rattle.abides_run.specs.Placed.{kept_under, possibly_kept}
use Rattle.abides_run.specs.Sessions.{act_words}
use Rattle.abides_run.proofs.Carrying.{acts-answered, acts-eventless, acts-wanting, told-past}
use Rattle.abides_run.proofs.Keeping.{held-reached, session-rose}
use Rattle.abides_run.proofs.Performing.{sent_done}
use Rattle.abides_run.proofs.sessions.reach_and_answer.Goals as goal

pub returns-in-Err-NoEvent : goal.returns-in-Err-NoEvent
returns-in-Err-NoEvent g c =
    let k : CourseTold = c.args.simulation.now.study.course.value in
    let acts = c.args.acts.now in
    let past = c.in-Err-NoEvent.past in
    let found : past_act (first_session k) acts ≡ Some past = told-past c.in-Err-NoEvent.field-0 past (past_act (first_session k) acts) c.in-Err-NoEvent.field-0-is c.in-Err-NoEvent.ensures.past in
    λ reads. acts-eventless acts c.args.simulation.now.places (study_told c.args.simulation.now.study) past _ reads (g.O.Sink.faults c.args.out.now) c.args.steps.now c.carry_out.new.steps (g.O.Sink.taken c.args.out.now) c.past_end.result.status _
    found c.requires.few c.past_end.ensures (omega (arith, c.in-Ok.ensures.rose, c.carry_out.ensures.least)) (omega (arith, c.in-Ok.ensures.rose, c.carry_out.ensures.most))

pub returns-in-Err-Memory : goal.returns-in-Err-Memory
returns-in-Err-Memory g c =
    let k : CourseTold = c.args.simulation.now.study.course.value in
    let acts = c.args.acts.now in
    λ reads. acts-wanting acts c.args.simulation.now.places (study_told c.args.simulation.now.study) (past_act (first_session k) acts) _ _ reads (g.O.Sink.faults c.args.out.now) c.args.steps.now c.carry_out.new.steps (g.O.Sink.taken c.args.out.now) c.nameless-in-Err-Memory.result.status _
    c.nameless-in-Err-Memory.ensures (omega (arith, c.in-Ok.ensures.rose, c.carry_out.ensures.least)) (omega (arith, c.in-Ok.ensures.rose, c.carry_out.ensures.most))

pub returns : goal.returns
returns g c =
    let k : CourseTold = c.args.simulation.now.study.course.value in
    let s = study_told c.args.simulation.now.study in
    let acts = c.args.acts.now in
    let shelf = c.in-Ok.simulated.shelf in
    let plan = layout k.plan s.stride c.args.simulation.now.places in
    let kept : Kept = kept_under k s.stride c.args.simulation.now.places (is_held shelf) in
    let after : IsAfterWork k s.stride c.args.simulation.now.places c.args.simulation.now.workers shelf = c.in-Ok.ensures.after in
    let left = c.know_left.ensures s.stride c.args.simulation.now.places c.args.simulation.now.workers after in
    let same : all_reached (best shelf) (first_session k) acts ≡ all_reached kept (first_session k) acts =
    held-reached k s.stride c.args.simulation.now.places c.args.simulation.now.workers shelf after (first_session k) acts in
    let saved : all_reached kept (first_session k) acts ≤ most_reached s c.args.simulation.now.places acts =
    c.nearer_states_leave_less.ensures (surely_kept k s.stride c.args.simulation.now.places) kept (first_session k) acts (λ b e. c.left_states_lie_between.ensures.least k plan (is_held shelf) b e left) in
    let needed : least_reached s c.args.simulation.now.places acts ≤ all_reached kept (first_session k) acts =
    c.nearer_states_leave_less.ensures kept (possibly_kept k s.stride c.args.simulation.now.places) (first_session k) acts (λ b e. c.left_states_lie_between.ensures.most k plan (is_held shelf) b e left) in
    λ reads. acts-answered acts c.args.simulation.now.places s _ _ _ _ _ c.nameless-2.result.status _
    c.in-Ok-carry_out.ensures.within c.nameless-2.ensures
    (sent_done _ _ _ _ reads (g.O.Sink.faults c.args.out.now) (g.O.Sink.faults c.send.new.out) c.args.steps.now c.carry_out.new.steps (g.O.Sink.taken c.args.out.now) (g.O.Sink.taken c.send.new.out)
    c.send.result c.sent_status.result c.sent_status.ensures.ok c.sent_status.ensures.refused
    (omega (arith, c.in-Ok.ensures.rose, c.in-Ok-carry_out.ensures.rose, same, needed)) (omega (arith, c.in-Ok.ensures.rose, c.in-Ok-carry_out.ensures.rose, same, saved, needed)) (omega (arith, c.in-Ok.ensures.rose, c.carry_out.ensures.most))
    (subst (λ (bytes : List ℕ). Sent bytes (g.O.Sink.faults c.args.out.now) (g.O.Sink.faults c.send.new.out) (g.O.Sink.taken c.args.out.now) (g.O.Sink.taken c.send.new.out) c.send.result)
    (c.deref-2.ensures.value ∙ c.in-Ok-carry_out.ensures.bytes) c.send.ensures))
    (λ ok. session-rose s c.args.simulation.now.places c.args.simulation.now.workers acts shelf c.args.steps.now c.simulate_kept.new.steps c.carry_out.new.steps after left c.in-Ok.ensures.rose c.in-Ok-carry_out.ensures.rose)

pub returns-in-Err : goal.returns-in-Err
returns-in-Err g c =
    let k : CourseTold = c.args.simulation.now.study.course.value in
    let acts = c.args.acts.now in
    λ reads. acts-wanting acts c.args.simulation.now.places (study_told c.args.simulation.now.study) (past_act (first_session k) acts) _ act_words reads (g.O.Sink.faults c.args.out.now) c.args.steps.now c.simulate_kept.new.steps (g.O.Sink.taken c.args.out.now) c.nameless.result.status _
    c.nameless.ensures c.simulate_kept.ensures.least (omega (arith, c.simulate_kept.ensures.most))

pub carry_out-requires-clause-numbers : goal.carry_out-requires-clause-numbers
carry_out-requires-clause-numbers g c = c.requires.numbers

pub carry_out-requires-clause-fit : goal.carry_out-requires-clause-fit
carry_out-requires-clause-fit g c = c.requires.fit

pub carry_out-requires-clause-few : goal.carry_out-requires-clause-few
carry_out-requires-clause-few g c = c.requires.few

pub carry_out-requires-clause-stands : goal.carry_out-requires-clause-stands
carry_out-requires-clause-stands g c = c.requires.stands

pub carry_out-requires-clause-shelf : goal.carry_out-requires-clause-shelf
carry_out-requires-clause-shelf g c = c.in-Ok.ensures.shelf

pub carry_out-requires-clause-count : goal.carry_out-requires-clause-count
carry_out-requires-clause-count g c =
    let k : CourseTold = c.args.simulation.now.study.course.value in
    let course : IsCourse k = subst (λ (x : CourseTold). IsCourse x) c.deref.ensures c.opening.ensures.course in
    let acts : length c.args.acts.now * k.opening.limit ≤ 64 * 1000000 = mul-le (length c.args.acts.now) k.opening.limit 64 1000000 c.requires.few course.opening.limit in
    omega (arith, acts, c.requires.steps, c.simulate_kept.ensures.most, c.simulate_kept.ensures.few)
