use Rattle.std.proofs.Common.{◌≡◌, ◌+◌, ◌-◌, ◌++◌}
use Rattle.branch_tree.specs.Segments.{counted}
use Rattle.branch_tree.proofs.lists.count_from.Given as goal

abbrev pub invariant-loop-i : goal.invariant-loop-i
invariant-loop-i l = l.numbers.items ++ counted (l.first + l.i) (l.count - l.i) ≡ counted l.first l.count
