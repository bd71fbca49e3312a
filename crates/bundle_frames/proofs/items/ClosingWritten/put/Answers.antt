use Rattle.std.proofs.Common.{◌++◌}
use Rattle.std.specs.List.{flat_map}
use Rattle.bundle_frames.specs.Frames.{counts_frame, stock_frame, order_frame, agent_frame}
use Rattle.bundle_frames.proofs.Appends.{then_part, then_last}
use Rattle.bundle_frames.proofs.items.ClosingWritten.put.Goals as goal

pub returns : goal.returns
returns c =
    let k = c.args.self.now in
    let counts = counts_frame k.counts in
    let stocks = flat_map stock_frame k.stocks in
    let orders = flat_map order_frame k.orders in
    then_last _ _ _ _ (counts ++ stocks ++ orders) (flat_map agent_frame k.agents)
    (then_part _ _ _ (counts ++ stocks) orders
    (then_part _ _ _ counts stocks c.in_ok-put.ensures (rw c.as_slice.ensures at c.in_ok-put_all.ensures))
    (rw c.as_slice-2.ensures at c.in_ok-put_all-2.ensures))
    (rw c.as_slice-3.ensures at c.put_all-3.ensures)
