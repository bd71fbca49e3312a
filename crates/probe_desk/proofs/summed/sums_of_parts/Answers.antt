use Rattle.std.proofs.Common.{List, subst, ap}
use Rattle.std.specs.List.{flat_map}
use Rattle.std.proofs.lemmas.List.{take_all}
use Rattle.market_types.specs.Told.{EntryTold}
use Rattle.probe_desk.specs.Sums.{AreSums}
use Rattle.probe_desk.proofs.Summing.{sums-part}
use Rattle.probe_desk.proofs.summed.sums_of_parts.Goals as goal

pub loop-part-preserved : goal.loop-part-preserved
loop-part-preserved c =
    sums-part (λ t. t.now.list) c.args.parts.now c.loop-part.part-index c.part-item.result c.loop-part.sums c.sums.result c.followed_by-sums.result c.followed_by-sums.ensures.sums c.loop-part-test.true c.part-item.is c.loop-part.invariant c.sums.ensures

pub returns : goal.returns
returns c =
    subst (λ (es : List EntryTold). AreSums c.loop-part.sums es) (ap (flat_map (λ t. t.now.list)) (take_all c.loop-part.part-index c.args.parts.now c.loop-part-test.false)) c.loop-part.invariant
