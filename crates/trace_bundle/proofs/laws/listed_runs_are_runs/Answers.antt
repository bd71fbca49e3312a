use Rattle.trace_bundle.proofs.Held.{framed-of-listed, run-of-listed}
use Rattle.trace_bundle.proofs.laws.listed_runs_are_runs.Goals as goal

pub returns-clause-run : goal.returns-clause-run
returns-clause-run c = run-of-listed

pub returns-clause-framed : goal.returns-clause-framed
returns-clause-framed c = framed-of-listed
