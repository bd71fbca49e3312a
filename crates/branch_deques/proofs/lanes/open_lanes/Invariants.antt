use Rattle.std.proofs.Common.{◌≡◌, ◌<◌, ℕ, length, map, Some, slice_get, All}
use Rattle.branch_deques.specs.Lanes.{fresh}
use Rattle.branch_deques.specs.Told.{LaneTold, fresh_end, round, own_lanes}
use Rattle.branch_deques.proofs.lanes.open_lanes.Given as goal

abbrev pub invariant-loop-number : goal.invariant-loop-number
invariant-loop-number g l = record {
  count : length l.lanes.items ≡ l.workers;
  fresh : All (λ lane. lane.own.view ≡ fresh) l.lanes.items;
  each : (n : ℕ) (lane : LaneTold) → n < l.number → slice_get l.lanes.items n ≡ Some lane → lane.others ≡ map fresh_end (round n (own_lanes l.lanes.items));
}
