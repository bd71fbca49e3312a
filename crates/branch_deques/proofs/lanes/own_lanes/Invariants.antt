use Rattle.std.proofs.Common.{◌≡◌, length, All}
use Rattle.branch_deques.specs.Lanes.{fresh}
use Rattle.branch_deques.proofs.lanes.own_lanes.Given as goal

abbrev pub invariant-loop : goal.invariant-loop
invariant-loop g l = record {
  count : length l.lanes.items ≡ l.counter;
  each : All (λ lane. lane.own.view ≡ fresh) l.lanes.items;
}
