use Rattle.std.proofs.Common.{◌<◌, List, length, get_or, ap, arith}
use Rattle.branch_tree.specs.declared.segment.Segment.{Segment}
use Rattle.branch_tree.specs.Segments.{segments_in, no_segment}
use Rattle.branch_workers.specs.Layout.{start_number}
use Rattle.branch_workers.proofs.Starts.{start_few}
use Rattle.branch_workers.proofs.layout.grid.Goals as goal

pub add_grid-requires-clause-start : goal.add_grid-requires-clause-start
add_grid-requires-clause-start c =
    let p = c.args.plan.now in
    let i = c.loop-number.number in
    let items = c.segments-segment-items.ensures.value in
    let long = ap (λ (xs : List Segment). length xs) items in
    let start = ap (λ (xs : List Segment). start_number (get_or xs i no_segment).start) items in
    let here : i < length (segments_in p) = omega (arith, c.loop-number-test.true) in
    let few = start_few p i c.requires.tree here in let limit = c.requires.limit in omega arith
