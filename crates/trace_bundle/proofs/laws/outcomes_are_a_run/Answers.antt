use Rattle.trace_bundle.proofs.Held.{framed-run-of, listed-run-of, run-of, tallied-run-of}
use Rattle.trace_bundle.proofs.laws.outcomes_are_a_run.Goals as goal

pub returns-clause-run : goal.returns-clause-run
returns-clause-run c = run-of

pub returns-clause-framed : goal.returns-clause-framed
returns-clause-framed c = framed-run-of

pub returns-clause-tallied : goal.returns-clause-tallied
returns-clause-tallied c = tallied-run-of

pub returns-clause-listed : goal.returns-clause-listed
returns-clause-listed c = listed-run-of
