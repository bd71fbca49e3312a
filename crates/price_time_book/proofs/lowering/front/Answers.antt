use Rattle.std.proofs.Common.{◌≡◌, get_or, arith, rules}
use Rattle.price_time_book.specs.Indexed.{nothing}
use Rattle.price_time_book.proofs.Lowers.{chain_on}
use Rattle.price_time_book.proofs.lowering.front.Goals as goal

pub loop-at-init : goal.loop-at-init
loop-at-init c = record { placed = c.requires.right.first; before = c.requires.right.before; from = omega arith }

pub loop-at-preserved : goal.loop-at-preserved
loop-at-preserved c =
    let v = c.loop-at.invariant in
    let closed : (get_or c.args.orders.now c.loop-at.at nothing).left ≡ 0 = search rules in
    let n = chain_on c.args.queue c.args.orders.now c.args.nexts.now c.args.level.now c.loop-at.at c.requires.right v.from v.placed v.before closed in
    record { placed = n.1; before = n.2; from = omega (arith, n.0, v.from) }

pub loop-at-smaller : goal.loop-at-smaller
loop-at-smaller c =
    let v = c.loop-at.invariant in
    let closed : (get_or c.args.orders.now c.loop-at.at nothing).left ≡ 0 = search rules in
    let n = chain_on c.args.queue c.args.orders.now c.args.nexts.now c.args.level.now c.loop-at.at c.requires.right v.from v.placed v.before closed in
    omega (arith, n.0, v.placed.within)
