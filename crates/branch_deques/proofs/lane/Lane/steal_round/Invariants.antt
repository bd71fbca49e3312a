use Rattle.std.proofs.Common.{◌≡◌}
use Rattle.branch_deques.proofs.lane.Lane.steal_round.Given as goal

abbrev pub invariant-loop-other : goal.invariant-loop-other
invariant-loop-other g l = record {
  same : l.other-items ≡ l.initial.other-items;
}
