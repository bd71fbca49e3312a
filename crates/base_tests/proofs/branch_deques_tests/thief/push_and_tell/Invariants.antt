use Rattle.std.proofs.Common.{◌≡◌, length}
use Rattle.base_tests.proofs.branch_deques_tests.thief.push_and_tell.Given as goal

abbrev pub invariant-loop-segment : goal.invariant-loop-segment
invariant-loop-segment g l = length l.lane.own.view.pushed ≡ l.segment
