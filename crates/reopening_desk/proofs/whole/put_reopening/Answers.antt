use Rattle.std.proofs.Common.{ℕ, List, ◌++◌}
use Rattle.std.specs.List.{flat_map}
use Rattle.bundle_frames.specs.Frames.{message_frame}
use Rattle.bundle_frames.proofs.Appends.{then_last, then_part}
use Rattle.reopening_desk.specs.Reopening.{acting, add_frame, reopening_frames, trade_frames}
use Rattle.reopening_desk.proofs.whole.put_reopening.Goals as goal

pub returns : goal.returns
unfolding reopening_frames
returns c =
    let at = c.args.at.now in
    let old = c.args.out.now.items in
    let quoting : List ℕ = message_frame (acting at 81) in
    let joining : List ℕ = quoting ++ flat_map (add_frame at) c.args.orders.now in
    let trading : List ℕ = joining ++ trade_frames at c.args.cross c.args.parts.now in
    let going_on : List ℕ = trading ++ message_frame (acting at 84) in
    then_last c.put_end.result old _ _ _ _
    (then_part old _ _ going_on _
    (then_part old _ _ trading _
    (then_part old _ _ joining _
    (then_part old _ _ quoting _ c.in_ok-put_state.ensures c.in_ok-put_orders.ensures)
    c.in_ok-put_trades.ensures)
    c.in_ok-put_state-2.ensures)
    c.in_ok-put_price.ensures)
    c.put_end.ensures.appended
