use Rattle.std.proofs.Common.{◌≡◌, ◌+◌, [], drop, take}
use Rattle.branch_tree.specs.Tree.{mixed_from}
use Rattle.branch_tree.proofs.refusals.place_among_children.Given as goal

abbrev pub invariant-loop-i : goal.invariant-loop-i
invariant-loop-i l = mixed_from (take l.i l.children) (l.i + 1) (drop l.i l.children) ≡ mixed_from [] 1 l.children
