use Rattle.std.proofs.Common.{◌≡◌, ◌-◌, ◌+◌, ◌∙◌, ap, get_or, drop, min, arith}
use Rattle.std.proofs.lemmas.List.{at_drop_all}
use Rattle.reopen_cross.specs.declared.cross.Part.{Part}
use Rattle.reopen_cross.specs.Places.{filled_along}
use Rattle.reopen_cross.proofs.Adds.{ends, goes-on, nobody}
use Rattle.reopen_cross.proofs.Places.{along-done, along-next}
use Rattle.reopen_cross.proofs.filling.fill_along.Goals as goal

pub returns-then-wanted-eq0 : goal.returns-then-wanted-eq0
returns-then-wanted-eq0 c = ends c.loop-order.parts.items _ _ (along-done c.loop-order.wanted (drop c.loop-order.order-index c.args.orders.now) c.if-wanted-eq0.true) c.loop-order.invariant

pub returns : goal.returns
returns c = ends c.loop-order.parts.items _ _ (at_drop_all (filled_along c.loop-order.wanted) c.args.orders.now c.loop-order.order-index (omega arith)) c.loop-order.invariant

pub loop-order-preserved : goal.loop-order-preserved
loop-order-preserved c =
    let i = c.loop-order.order-index in
    let rest = drop (i + 1) c.args.orders.now in
    let o = get_or c.args.orders.now i nobody in
    let next = along-next c.loop-order.wanted c.args.orders.now i (omega arith) c.if-wanted-eq0.false in
    let left : c.loop-order.wanted - c.from-wanted.result ≡ c.loop-order.wanted - min o.left c.loop-order.wanted = omega (arith, c.from-wanted.ensures, ap (λ (x : Part). x.shares) c.part_of-part.ensures) in
    goes-on c.loop-order.parts.items c.part_of-part.result _ (filled_along (c.loop-order.wanted - c.from-wanted.result) rest) _ c.push.new.self.items c.loop-order.invariant
    (next ∙ cc (c.part_of-part.ensures, left))
    c.in_ok-push.ensures.items
