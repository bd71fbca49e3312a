use Rattle.std.proofs.Common.{◌++◌, ◌+◌, ◌-◌, length, map, drop, take, ap, ◌∙◌}
use Rattle.branch_deques.specs.Told.{fresh_end, own_lanes}
use Rattle.branch_deques.proofs.Rounds.{round_is, take_rest}
use Rattle.branch_deques.proofs.lanes.ends_for.Goals as goal

pub returns : goal.returns
returns g c =
    let n = c.args.number in let lanes = c.args.lanes.now in
    let behind = c.in-Ok.ensures ∙ ap (λ l. l ++ map fresh_end (own_lanes (take (length lanes - (n + 1)) (drop (n + 1) lanes)))) c.new-ends.ensures.items ∙ ap (λ l. map fresh_end (own_lanes l)) (take_rest (n + 1) lanes) in
    c.in-Ok-add_ends.ensures ∙ ap (λ l. l ++ map fresh_end (own_lanes (take n lanes))) behind ∙ round_is n lanes
