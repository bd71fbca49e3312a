use Rattle.std.proofs.Common.{ℕ, ◌++◌, ◌∷◌, [], List, sym, ap, ◌∙◌, add-one}
use Rattle.bundle_frames.specs.declared.closing.ClosingStock.{ClosingStock}
use Rattle.exchange_agent.specs.State.{stock_at}
use Rattle.market_floor.specs.Floor.{offset_at}
use Rattle.kernel_copy.specs.Closing.{stock_closed, stocks_closed}
use Rattle.kernel_copy.proofs.closing.stocks.Goals as goal

pub loop-k-preserved : goal.loop-k-preserved
loop-k-preserved c =
    let s = c.args.kernel.now in
    let k = c.loop-k.k in
    c.in_ok-push.ensures.items ∙ ap (λ (x : ClosingStock). c.loop-k.stocks.items ++ x ∷ []) c.stock.ensures
    ∙ ap (λ (xs : List ClosingStock). xs ++ stock_closed k (offset_at s.floor k) (stock_at s.floor.exchange k) ∷ []) c.loop-k.invariant
    ∙ sym (ap (λ (n : ℕ). stocks_closed s n) (add-one k))
