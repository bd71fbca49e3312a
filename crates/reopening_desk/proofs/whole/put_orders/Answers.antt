use Rattle.std.proofs.Common.{◌∙◌}
use Rattle.bundle_frames.proofs.Appends.{one_more}
use Rattle.reopening_desk.specs.Reopening.{add_frame}
use Rattle.reopening_desk.proofs.whole.put_orders.Goals as goal

pub loop-order-preserved : goal.loop-order-preserved
loop-order-preserved c =
    one_more (add_frame c.args.at.now) c.args.orders.now c.loop-order.order-index _ _ _ c.loop-order-test.true c.in_ok-put_order.ensures
    ∙ c.loop-order.invariant
