use Rattle.std.proofs.Common.{◌≡◌, ◌∙◌, List, None, sym, ap, arith}
use Rattle.branch_tree.specs.Plan.{Plan}
use Rattle.kernel_copy.specs.Courses.{CourseTold}
use Rattle.rewind_desk.specs.declared.aimed.Aimed.{Aimed}
use Rattle.rewind_desk.specs.declared.aimed.Aimed.TheVariants.{At, NoBranch}
use Rattle.rewind_desk.specs.declared.target.Target.{Target}
use Rattle.rewind_desk.specs.Targets.{aimed_at}
use Rattle.study_rules.specs.Accepted.{study_told}
use Rattle.abides_run.specs.Rewinds.{argument_at}
use Rattle.abides_run.specs.Verdict.{verdict_on_aimed, verdict_on_found}
use Rattle.command_words.specs.declared.asked.Task.TheVariants.{Rewind}
use Rattle.abides_run.proofs.Aiming.{unnamed-below, word-among}
use Rattle.abides_run.proofs.Finishing.{branchless-finishes, wanting-finishes}
use Rattle.abides_run.proofs.rewinds.rewind_study.Goals as goal

pub word_of-requires : goal.word_of-requires
word_of-requires g c =
    unnamed-below c.plan.result.now.branches c.args.marks.now c.in-Ok-NoBranch.index c.requires.marks.each (sym c.in-Ok-NoBranch.ensures ∙ c.in-Ok-NoBranch.field-0-is)

pub returns-in-Ok-NoBranch : goal.returns-in-Ok-NoBranch
returns-in-Ok-NoBranch g c =
    let k : CourseTold = c.args.simulation.now.study.course.value in
    let marks = c.args.marks.now in
    let i = c.in-Ok-NoBranch.index in
    let s = study_told c.args.simulation.now.study in
    let plan : c.plan.result.now ≡ k.plan = c.plan.ensures.value ∙ ap (λ (x : CourseTold). x.plan) c.deref.ensures in
    let aims : aimed_at k.plan.branches marks ≡ NoBranch i = ap (λ (p : Plan). aimed_at p.branches marks) (sym plan) ∙ sym c.in-Ok-NoBranch.ensures ∙ c.in-Ok-NoBranch.field-0-is in
    λ reads probes. branchless-finishes (verdict_on_found (Rewind marks c.args.simulation.now.places) None s) (argument_at marks i) probes _ reads (g.O.Sink.faults c.args.out.now) c.args.steps.now (g.O.Sink.taken c.args.out.now) c.named.result.status _
    (ap (λ (a : Aimed). verdict_on_aimed marks c.args.simulation.now.places s a) aims) (rw c.word_of.ensures at c.named.ensures) (word-among marks i (unnamed-below k.plan.branches marks i c.requires.marks.each aims))

pub returns-in-Ok-At : goal.returns-in-Ok-At
returns-in-Ok-At g c = c.reach_and_write.ensures

pub returns-in-Err : goal.returns-in-Err
returns-in-Err g c =
    λ reads probes. wanting-finishes (verdict_on_found (Rewind c.args.marks.now c.args.simulation.now.places) None (study_told c.args.simulation.now.study)) probes _ reads (g.O.Sink.faults c.args.out.now) c.args.steps.now c.args.steps.now (g.O.Sink.taken c.args.out.now) c.nameless.result.status _
    c.nameless.ensures (omega arith) (omega arith)

pub reach_and_write-requires-clause-marks : goal.reach_and_write-requires-clause-marks
reach_and_write-requires-clause-marks g c κs within = c.requires.marks

pub reach_and_write-requires-clause-targets : goal.reach_and_write-requires-clause-targets
reach_and_write-requires-clause-targets g c κs within =
    let k : CourseTold = c.args.simulation.now.study.course.value in
    let plan : c.plan.result.now ≡ k.plan = c.plan.ensures.value ∙ ap (λ (x : CourseTold). x.plan) c.deref.ensures in
    ap (λ (p : Plan). aimed_at p.branches c.args.marks.now) (sym plan) ∙ sym c.in-Ok-At.ensures ∙ c.in-Ok-At.field-0-is ∙ ap (λ (ts : List Target). At ts) (sym c.as_slice.ensures)
