use Rattle.std.proofs.Common.{◌≡◌, ◌<◌, ℕ, [], length, get_or}
use Rattle.branch_tree.specs.Segments.{children_from}
use Rattle.branch_tree.proofs.children.all_children.Given as goal

abbrev pub invariant-loop-i : goal.invariant-loop-i
invariant-loop-i l = record {
  count : length l.all.items ≡ l.i;
  children : (s : ℕ) → s < l.i → get_or l.all.items s [] ≡ children_from s 0 l.segments;
}
