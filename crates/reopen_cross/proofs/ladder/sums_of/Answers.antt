use Rattle.std.proofs.Common.{arith}
use Rattle.std.proofs.lemmas.List.Sums.{sum_by-le, sum_by_more_le}
use Rattle.reopen_cross.specs.declared.cross.Interest.{Interest}
use Rattle.reopen_cross.proofs.Adds.{nobody}
use Rattle.reopen_cross.proofs.ladder.sums_of.Goals as goal

pub overflow_add-shares : goal.overflow_add-shares
overflow_add-shares c = omega (arith, c.loop-order.invariant.shares, c.from-shares.ensures, sum_by_more_le (λ (o : Interest). o.left) c.args.orders.now c.loop-order.order-index nobody (omega arith), sum_by-le (λ (o : Interest). o.left) 999999 c.args.orders.now c.requires.small)
