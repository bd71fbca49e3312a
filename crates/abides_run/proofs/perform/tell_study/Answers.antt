use Rattle.std.proofs.Common.{◌≡◌, ◌+◌, List, ℕ, ap, subst, sym, ◌∙◌, arith}
use Rattle.kernel_copy.specs.Courses.{CourseTold}
use Rattle.kernel_copy.specs.Segmentwise as segmentwise
use Rattle.abides_run.specs.Output.{study_events, study_lines}
use Rattle.abides_run.specs.Performed.{Sent}
use Rattle.abides_run.specs.Simulated.{AreTalliedRunOf}
use Rattle.abides_run.proofs.Performing.{sent_ends, wanting}
use Rattle.abides_run.proofs.perform.tell_study.Goals as goal

pub returns-in-Err : goal.returns-in-Err
returns-in-Err g c =
    λ reads. wanting _ (study_events c.args.simulation.now.study.course.value) 0 (study_events c.args.simulation.now.study.course.value) reads (g.O.Sink.faults c.args.out.now) c.args.steps.now c.simulate.new.steps (g.O.Sink.taken c.args.out.now) c.simulate.ensures.least c.simulate.ensures.most

pub returns-in-Err-big_lines : goal.returns-in-Err-big_lines
returns-in-Err-big_lines g c =
    λ reads. wanting _ (study_events c.args.simulation.now.study.course.value) 0 (study_events c.args.simulation.now.study.course.value) reads (g.O.Sink.faults c.args.out.now) c.args.steps.now c.simulate.new.steps (g.O.Sink.taken c.args.out.now) c.simulate.ensures.least c.simulate.ensures.most

pub returns : goal.returns
unfolding study_lines
returns g c =
    λ reads. sent_ends _ (study_events c.args.simulation.now.study.course.value) reads (g.O.Sink.faults c.args.out.now) (g.O.Sink.faults c.send.new.out) c.args.steps.now c.simulate.new.steps (g.O.Sink.taken c.args.out.now) (g.O.Sink.taken c.send.new.out)
    c.send.result c.sent_status.result c.sent_status.ensures.ok c.sent_status.ensures.refused c.in-Ok.ensures.rose
    (subst (λ (bytes : List ℕ). Sent bytes (g.O.Sink.faults c.args.out.now) (g.O.Sink.faults c.send.new.out) (g.O.Sink.taken c.args.out.now) (g.O.Sink.taken c.send.new.out) c.send.result)
    (c.as_bytes.ensures.value ∙ (rw c.deref.ensures at c.in-Ok-big_lines.ensures)) c.send.ensures)

pub big_lines-requires-clause-ran : goal.big_lines-requires-clause-ran
big_lines-requires-clause-ran g c = subst (λ (x : CourseTold). AreTalliedRunOf x c.in-Ok.worked.outcomes.items) (sym c.deref.ensures) (c.in-Ok.ensures.tallied tt)

pub big_lines-requires-clause-distinct : goal.big_lines-requires-clause-distinct
unfolding study_events
big_lines-requires-clause-distinct g c =
    let k : CourseTold = c.args.simulation.now.study.course.value in
    let rose : c.simulate.new.steps ≡ c.args.steps.now + segmentwise.distinct k.opening k.plan = c.in-Ok.ensures.rose in
    let same = ap (λ (x : CourseTold). segmentwise.distinct x.opening x.plan) c.deref.ensures in omega arith
