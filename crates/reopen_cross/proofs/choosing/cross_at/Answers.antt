use Rattle.std.proofs.Common.{◌≡◌, ◌≤◌, ◌∙◌, ap, arith}
use Rattle.std.proofs.lemmas.List.Elements.{recursion_from_All}
use Rattle.reopen_cross.specs.declared.cross.Interest.{Interest}
use Rattle.reopen_cross.specs.declared.tallies.Tally.{Tally}
use Rattle.reopen_cross.specs.Cross.{executed}
use Rattle.reopen_cross.specs.Tallies.{executed_by}
use Rattle.reopen_cross.proofs.Clears.{first-positive, cross-made}
use Rattle.reopen_cross.proofs.choosing.cross_at.Goals as goal

pub overflow_sub-cut : goal.overflow_sub-cut
overflow_sub-cut c = omega (arith, c.first_beyond-cut.ensures, first-positive c.args.sides.now.list.now c.executed-shares.result c.args.sides.now.list.now (recursion_from_All (λ (o : Interest). 1 ≤ o.price) c.args.sides.now.list.now c.requires.orders.priced))

pub returns : goal.returns
returns c =
    let list = c.args.sides.now.list.now in
    let p = c.args.best.now.price in
    let e : c.executed-shares.result ≡ executed list p = c.executed-shares.ensures ∙ ap executed_by c.requires.tally in
    cross-made list p c.executed-shares.result c.args.best.now.buys c.args.best.now.sells c.first_beyond-cut.result c.shares_at.result c.shares_at-2.result e c.if-shares-eq0.false
    (ap (λ (t : Tally). t.buys) c.requires.tally) (ap (λ (t : Tally). t.sells) c.requires.tally) c.first_beyond-cut.ensures c.shares_at.ensures c.shares_at-2.ensures
