use Rattle.std.proofs.Common.{◌∙◌}
use Rattle.bundle_frames.proofs.Appends.{one_more_at}
use Rattle.bundle_frames.proofs.written.put_all.Goals as goal

pub loop-item-preserved : goal.loop-item-preserved
loop-item-preserved g c =
    one_more_at g.W.Written.bytes c.args.items.now c.loop-item.item-index _ _ _ c.loop-item-test.true c.item-item.is c.in_ok-put.ensures
    ∙ c.loop-item.invariant
