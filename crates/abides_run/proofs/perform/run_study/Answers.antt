use Rattle.std.proofs.Common.{arith, subst, sym}
use Rattle.kernel_copy.specs.Courses.{CourseTold}
use Rattle.abides_run.specs.Output.{study_bundle, study_events}
use Rattle.abides_run.specs.Simulated.{AreFramedRunOf}
use Rattle.abides_run.proofs.Performing.{sent_ends, wanting}
use Rattle.abides_run.proofs.perform.run_study.Goals as goal

pub returns-in-Ok : goal.returns-in-Ok
returns-in-Ok g c =
    let k = c.args.simulation.now.study.course.value in
    λ reads. sent_ends (study_bundle k) (study_events k) reads (g.O.Sink.faults c.args.out.now) (g.O.Sink.faults c.send_bundle-sent.new.out) c.args.steps.now c.simulate.new.steps (g.O.Sink.taken c.args.out.now) (g.O.Sink.taken c.send_bundle-sent.new.out)
    c.send_bundle-sent.result c.sent_status.result c.sent_status.ensures.ok c.sent_status.ensures.refused c.in-Ok.ensures.rose (rw c.deref.ensures at c.send_bundle-sent.ensures)

pub returns-in-Err : goal.returns-in-Err
returns-in-Err g c =
    let k = c.args.simulation.now.study.course.value in
    λ reads. wanting (study_bundle k) (study_events k) 0 (study_events k) reads (g.O.Sink.faults c.args.out.now) c.args.steps.now c.simulate.new.steps (g.O.Sink.taken c.args.out.now) c.simulate.ensures.least c.simulate.ensures.most

pub send_bundle-sent-requires : goal.send_bundle-sent-requires
send_bundle-sent-requires g c = subst (λ (x : CourseTold). AreFramedRunOf x c.in-Ok.worked.outcomes.items) (sym c.deref.ensures) (c.in-Ok.ensures.framed tt)
