use Rattle.std.proofs.Common.{◌+◌, List, [], ◌∷◌, Option, get_or, take, sym, subst}
use Rattle.std.proofs.lemmas.List.{take_more}
use Rattle.shelf_core.specs.declared.plan.Key.{Key}
use Rattle.rewind_desk.specs.declared.near.Near.{Near}
use Rattle.rewind_desk.specs.Nearest.{IsNearest, nearer_of}
use Rattle.rewind_desk.proofs.Bests.{nearer-both, nearest-none}
use Rattle.rewind_desk.proofs.finding.nearest_among.Goals as goal

pub loop-key-init : goal.loop-key-init
loop-key-init c = nearest-none c.args.shelf.now c.args.last c.args.event

pub loop-key-preserved : goal.loop-key-preserved
loop-key-preserved c =
    let shelf = c.args.shelf.now in
    let s = c.args.last in
    let e = c.args.event in
    let keys = c.args.keys.now in
    let i = c.loop-key.key-index in
    let found = c.loop-key.found in
    let near = c.near_at-near.result in
    let key : Key = get_or keys i _ in
    subst (λ (x : Option Near). IsNearest shelf s e (take (i + 1) keys) x) (sym c.nearer-next.ensures)
    (subst (λ (ks : List Key). IsNearest shelf s e ks (nearer_of found near)) (sym (take_more keys i _ c.loop-key-test.true))
    (nearer-both shelf s e (take i keys) (key ∷ []) found near c.loop-key.invariant c.near_at-near.ensures))
