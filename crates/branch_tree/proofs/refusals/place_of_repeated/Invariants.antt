use Rattle.std.proofs.Common.{◌≡◌, drop, take}
use Rattle.branch_tree.specs.Tree.{repeated_from, repeated_name}
use Rattle.branch_tree.proofs.refusals.place_of_repeated.Given as goal

abbrev pub invariant-loop-i : goal.invariant-loop-i
invariant-loop-i l = repeated_from (take l.i l.branches) l.i (drop l.i l.branches) ≡ repeated_name l.branches
