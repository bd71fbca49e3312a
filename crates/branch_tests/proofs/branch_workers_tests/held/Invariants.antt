use Rattle.std.proofs.Common.{◌≤◌}
use Rattle.branch_tests.proofs.branch_workers_tests.held.Given as goal

abbrev pub invariant-loop-segment : goal.invariant-loop-segment
invariant-loop-segment l = l.held ≤ l.segment
