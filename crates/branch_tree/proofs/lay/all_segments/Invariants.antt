use Rattle.std.proofs.Common.{◌≡◌, ◌<◌, ℕ, [], length, get_or}
use Rattle.branch_tree.specs.Segments.{segments_before, numbers_of}
use Rattle.branch_tree.proofs.lay.all_segments.Given as goal

abbrev pub invariant-loop-i : goal.invariant-loop-i
invariant-loop-i l = record {
  segments : l.segments.items ≡ segments_before l.branches l.limit l.i;
  count : length l.numbers.items ≡ l.i;
  numbers : (b : ℕ) → b < l.i → get_or l.numbers.items b [] ≡ numbers_of (record { branches = l.branches; limit = l.limit }) b;
}
