use Rattle.std.proofs.Common.{◌≡◌, ◌++◌, drop}
use Rattle.branch_tree.specs.Segments.{children_from}
use Rattle.branch_tree.proofs.children.children.Given as goal

abbrev pub invariant-loop-i : goal.invariant-loop-i
invariant-loop-i l = l.numbers.items ++ children_from l.segment l.i (drop l.i l.segments) ≡ children_from l.segment 0 l.segments
