use Rattle.std.proofs.Common.{◌++◌, map, ap, ◌∙◌, arith}
use Rattle.branch_deques.specs.Told.{fresh_end, own_lanes}
use Rattle.branch_deques.proofs.Rounds.{take_long}
use Rattle.branch_deques.proofs.lanes.add_ends.Goals as goal

pub returns : goal.returns
returns g c = let far = c.loop-lane-test.false in
    c.loop-lane.invariant ∙ ap (λ m. c.args.ends.now.items ++ map fresh_end (own_lanes m)) (take_long _ _ (omega arith))
