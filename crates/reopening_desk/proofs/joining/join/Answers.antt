use Rattle.std.proofs.Common.{◌≡◌, ◌++◌, ◌∷◌, [], ◌∙◌, ap, get_or, map, sym, subst, List, arith}
use Rattle.std.proofs.lemmas.List.{take_all}
use Rattle.reopen_cross.specs.declared.cross.Interest.{Interest}
use Rattle.reopen_cross.specs.Orderly.{AreInterests}
use Rattle.reopen_cross.proofs.Adds.{nobody}
use Rattle.reopening_desk.specs.Filed.{numbered_after}
use Rattle.reopening_desk.proofs.Joins.{file-joins, low-number, one-more}
use Rattle.reopening_desk.proofs.joining.join.Goals as goal

pub overflow_add-last : goal.overflow_add-last
overflow_add-last c =
    let low = low-number c.args.orders.now c.loop-order.order-index nobody (omega arith) c.requires.orders in
    omega (arith, low, c.requires.small)

pub loop-order-preserved : goal.loop-order-preserved
loop-order-preserved c =
    c.in_ok-push.ensures.items
    ∙ ap (λ (xs : List Interest). xs ++ numbered_after c.args.last (get_or c.args.orders.now c.loop-order.order-index nobody) ∷ []) c.loop-order.invariant
    ∙ one-more c.args.last c.args.list.now.items c.args.orders.now c.loop-order.order-index nobody (omega arith)

pub returns : goal.returns
returns c =
    let all : c.loop-order.list.items ≡ c.args.list.now.items ++ map (numbered_after c.args.last) c.args.orders.now
    = c.loop-order.invariant ∙ ap (λ (xs : List Interest). c.args.list.now.items ++ map (numbered_after c.args.last) xs) (take_all c.loop-order.order-index c.args.orders.now (omega arith)) in record {
      joined = all;
      interests = subst AreInterests (sym all) (file-joins c.args.list.now.items c.args.orders.now c.args.last c.requires.book c.requires.few c.requires.last c.requires.orders);
    }
