use Rattle.std.proofs.Common.{◌≡◌, drop}
use Rattle.branch_tree.specs.Tree.{late_from, late_parent}
use Rattle.branch_tree.proofs.refusals.place_of_late.Given as goal

abbrev pub invariant-loop-i : goal.invariant-loop-i
invariant-loop-i l = late_from l.i (drop l.i l.branches) ≡ late_parent l.branches
