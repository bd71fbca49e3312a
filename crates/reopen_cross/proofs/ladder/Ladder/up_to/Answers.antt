use Rattle.std.proofs.Common.{◌≡◌, ◌≤◌, ◌∙◌, get_or, length, arith, ap}
use Rattle.std.proofs.lemmas.List.{get_or_read}
use Rattle.reopen_cross.proofs.ladder.Ladder.up_to.Goals as goal

pub returns : goal.returns
returns c =
    let s = c.args.self.now in
    let n = c.count_up_to.result in
    let w : n ≤ length s.orders.items = omega (arith, c.count_up_to.ensures.within, ap length c.as_slice.ensures.value) in
    let read : c.index.result.now ≡ get_or s.sums.items n 0 = get_or_read s.sums.items _ _ (omega (arith, s.summed.long, w)) c.index.ensures 0 in
    read ∙ s.summed.each n w ∙ (rw c.as_slice.ensures.value at c.count_up_to.ensures.shares)
