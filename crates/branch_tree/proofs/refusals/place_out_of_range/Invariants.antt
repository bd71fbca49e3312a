use Rattle.std.proofs.Common.{◌≡◌, drop}
use Rattle.branch_tree.specs.Tree.{out_from, out_of_range}
use Rattle.branch_tree.proofs.refusals.place_out_of_range.Given as goal

abbrev pub invariant-loop-i : goal.invariant-loop-i
invariant-loop-i l = out_from l.limit l.branches l.i (drop l.i l.branches) ≡ out_of_range l.limit l.branches
