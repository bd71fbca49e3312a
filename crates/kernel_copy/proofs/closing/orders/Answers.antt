use Rattle.std.proofs.Common.{ℕ, ◌++◌, List, map, sym, ap, ◌∙◌, add-one}
use Rattle.bundle_frames.specs.declared.closing.ClosingOrder.{ClosingOrder}
use Rattle.exchange_agent.specs.State.{stock_at}
use Rattle.kernel_copy.specs.Closing.{order_closed, orders_closed}
use Rattle.kernel_copy.proofs.closing.orders.Goals as goal

pub loop-k-preserved : goal.loop-k-preserved
loop-k-preserved c =
    let x = c.args.exchange.now in
    let k = c.loop-k.k in
    c.in-Ok.ensures ∙ ap (λ (os : List ClosingOrder). os ++ map (order_closed k) (stock_at x k).book) c.loop-k.invariant
    ∙ sym (ap (λ (n : ℕ). orders_closed x n) (add-one k))
