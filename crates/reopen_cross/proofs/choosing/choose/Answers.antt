use Rattle.std.proofs.Common.{◌≡◌, ◌∙◌, ap, sym, subst, List, Some, IfSome}
use Rattle.reopen_cross.specs.declared.cross.Interest.{Interest}
use Rattle.reopen_cross.specs.Clearing.{IsClearing}
use Rattle.reopen_cross.specs.Cross.{best_price, cross_where}
use Rattle.reopen_cross.specs.Orderly.{AreInterests}
use Rattle.reopen_cross.proofs.Clears.{clears-all, price-found}
use Rattle.reopen_cross.proofs.choosing.choose.Goals as goal

pub returns-clause-clears : goal.returns-clause-clears
returns-clause-clears c =
    let list = c.in_ok-sides.sides.list.now in
    let same : list ≡ c.args.list.now = c.in_ok-sides.ensures in
    let found : best_price list list ≡ Some c.in-Some.best.price = price-found list (best_price list list) c.in-Some.best (sym c.in-Some.ensures) in
    subst (λ (v : List Interest). IfSome c.cross_at.result (IsClearing v)) same (clears-all list c.cross_at.result (subst AreInterests (sym same) c.requires) (c.cross_at.ensures ∙ ap (cross_where list) (sym found)))
