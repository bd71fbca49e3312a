use Rattle.std.proofs.Common.{List, ℕ, refl, subst, sym, ◌∙◌}
use Rattle.kernel_copy.specs.Courses.{CourseTold}
use Rattle.abides_run.specs.Output.{study_events, study_table}
use Rattle.abides_run.specs.Performed.{Sent}
use Rattle.abides_run.specs.Simulated.{AreListedRunOf}
use Rattle.abides_run.proofs.Performing.{sent_ends, wanting}
use Rattle.abides_run.proofs.perform.table_study.Goals as goal

pub returns-in-Err : goal.returns-in-Err
returns-in-Err g c =
    λ reads. wanting _ (study_events c.args.simulation.now.study.course.value) 0 (study_events c.args.simulation.now.study.course.value) reads (g.O.Sink.faults c.args.out.now) c.args.steps.now c.simulate.new.steps (g.O.Sink.taken c.args.out.now) c.simulate.ensures.least c.simulate.ensures.most

pub returns-in-Err-study_table : goal.returns-in-Err-study_table
returns-in-Err-study_table g c =
    λ reads. wanting _ (study_events c.args.simulation.now.study.course.value) 0 (study_events c.args.simulation.now.study.course.value) reads (g.O.Sink.faults c.args.out.now) c.args.steps.now c.simulate.new.steps (g.O.Sink.taken c.args.out.now) c.simulate.ensures.least c.simulate.ensures.most

pub returns : goal.returns
unfolding study_table
returns g c =
    λ reads. sent_ends _ (study_events c.args.simulation.now.study.course.value) reads (g.O.Sink.faults c.args.out.now) (g.O.Sink.faults c.send.new.out) c.args.steps.now c.simulate.new.steps (g.O.Sink.taken c.args.out.now) (g.O.Sink.taken c.send.new.out)
    c.send.result c.sent_status.result c.sent_status.ensures.ok c.sent_status.ensures.refused c.in-Ok.ensures.rose
    (subst (λ (bytes : List ℕ). Sent bytes (g.O.Sink.faults c.args.out.now) (g.O.Sink.faults c.send.new.out) (g.O.Sink.taken c.args.out.now) (g.O.Sink.taken c.send.new.out) c.send.result)
    (c.deref-2.ensures.value ∙ (rw c.deref.ensures at c.in-Ok-study_table.ensures.table)) c.send.ensures)

pub study_table-requires : goal.study_table-requires
study_table-requires g c = subst (λ (x : CourseTold). AreListedRunOf x c.in-Ok.worked.outcomes.items) (sym c.deref.ensures) (c.in-Ok.ensures.listed refl)
