use Rattle.std.proofs.Common.{◌≡◌, ◌≤◌, ◌+◌, ℕ, get_or, length, sum_by, take}
use Rattle.reopen_cross.specs.declared.cross.Interest.{Interest}
use Rattle.reopen_cross.proofs.ladder.sums_of.Given as goal

abbrev pub invariant-loop-order : goal.invariant-loop-order
invariant-loop-order l = record {
  shares : l.shares ≡ sum_by (λ (o : Interest). o.left) (take l.order-index l.orders);
  long : length l.sums.items ≡ l.order-index + 1;
  each : (k : ℕ) → k ≤ l.order-index → get_or l.sums.items k 0 ≡ sum_by (λ (o : Interest). o.left) (take k l.orders);
}
