use Rattle.std.proofs.Common.{◌≡◌, List, sym, ap, ◌∙◌, subst}
use Rattle.shelf_core.specs.declared.plan.Key.{Key}
use Rattle.shelf_core.specs.declared.plan.ShelfPlan.{ShelfPlan}
use Rattle.std.proofs.Common.{Option}
use Rattle.rewind_desk.specs.declared.near.Near.{Near}
use Rattle.rewind_desk.specs.Best.{keys_in}
use Rattle.rewind_desk.specs.Nearest.{IsNearest}
use Rattle.rewind_desk.proofs.Bests.{nearer-both}
use Rattle.rewind_desk.proofs.finding.nearest_to.Goals as goal

pub returns : goal.returns
returns c =
    let shelf = c.args.shelf.now in
    let s = c.args.last in
    let e = c.args.event in
    let plan = c.plan-plan.ensures in
    let forks : c.as_slice.result.now ≡ shelf.plan.forks = c.as_slice.ensures ∙ ap (λ (p : ShelfPlan). p.forks) plan in
    let grid : c.as_slice-2.result.now ≡ shelf.plan.grid = c.as_slice-2.ensures ∙ ap (λ (p : ShelfPlan). p.grid) plan in
    let fork = subst (λ (ks : List Key). IsNearest shelf s e ks c.nearest_among-fork.result) forks c.nearest_among-fork.ensures in
    let between = subst (λ (ks : List Key). IsNearest shelf s e ks c.nearest_among-between.result) grid c.nearest_among-between.ensures in
    subst (λ (x : Option Near). IsNearest shelf s e (keys_in shelf.plan) x) (sym c.nearer.ensures)
    (nearer-both shelf s e shelf.plan.forks shelf.plan.grid c.nearest_among-fork.result c.nearest_among-between.result fork between)
