use Rattle.std.proofs.Common.{[]}
use Rattle.study_rules.specs.Accepted.{study_told}
use Rattle.abides_run.specs.Output.{described}
use Rattle.abides_run.proofs.Performing.{due_finishes}
use Rattle.abides_run.proofs.perform.perform.Goals as goal

pub returns-in-Study : goal.returns-in-Study
returns-in-Study g c = λ reads. rw c.in-Study.is (c.perform_task-ending.ensures reads)

pub returns-in-Large : goal.returns-in-Large
returns-in-Large g c =
    λ reads. rw c.in-Large.is (due_finishes _ (described c.in-Large.bytes (study_told c.in-Large.simulation.study)) [] _ _ c.tell_study-status.result c.nameless.result.status _
    c.nameless.ensures (c.tell_study-status.ensures reads) (λ e. tt))

pub returns-in-Bundle : goal.returns-in-Bundle
returns-in-Bundle g c = λ reads. rw c.in-Bundle.is (c.audit_bundle.ensures reads c.args.steps.now _)
