use Rattle.std.proofs.Common.{◌≡◌, length}
use Rattle.study_report.specs.Difference.{AreNumbered, events_in}
use Rattle.branch_tests.proofs.study_report_tests.run.Given as goal

abbrev pub invariant-loop-number : goal.invariant-loop-number
invariant-loop-number g l = AreNumbered 1 (events_in l.trace.list) × (length (events_in l.trace.list) ≡ l.number)
