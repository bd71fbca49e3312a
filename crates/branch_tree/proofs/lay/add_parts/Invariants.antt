use Rattle.std.proofs.Common.{◌≡◌, ◌+◌, ◌++◌, length, drop}
use Rattle.branch_tree.specs.Segments.{parts}
use Rattle.branch_tree.proofs.lay.add_parts.Given as goal

abbrev pub invariant-loop-cut : goal.invariant-loop-cut
invariant-loop-cut l = record {
  rest : l.segments.items ++ parts l.limit l.branch (length l.segments.items) l.parent l.start (drop l.cut-index l.cuts)
      ≡ l.initial.segments.items ++ parts l.limit l.branch (length l.initial.segments.items) l.initial.parent l.initial.start l.cuts;
  count : length l.segments.items ≡ length l.initial.segments.items + l.cut-index;
}
