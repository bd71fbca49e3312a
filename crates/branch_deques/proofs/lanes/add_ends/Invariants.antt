use Rattle.std.proofs.Common.{◌≡◌, ◌++◌, map, take}
use Rattle.branch_deques.specs.Told.{fresh_end, own_lanes}
use Rattle.branch_deques.proofs.lanes.add_ends.Given as goal

abbrev pub invariant-loop-lane : goal.invariant-loop-lane
invariant-loop-lane g l = l.ends.items ≡ l.fn.ends.items ++ map fresh_end (own_lanes (take l.lane-index l.lanes))
