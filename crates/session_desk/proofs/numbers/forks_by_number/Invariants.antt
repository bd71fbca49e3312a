use Rattle.std.proofs.Common.{◌≡◌, All, false, take}
use Rattle.branch_tree.specs.declared.branch.Branch.{Branch}
use Rattle.branch_tree.specs.Stops.{is_time}
use Rattle.session_desk.proofs.numbers.forks_by_number.Given as goal

abbrev pub invariant-loop-branch : goal.invariant-loop-branch
invariant-loop-branch l = All (λ (b : Branch). is_time b.stop ≡ false) (take l.branch-index l.branches)
