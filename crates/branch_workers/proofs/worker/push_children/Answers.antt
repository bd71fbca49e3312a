use Rattle.std.proofs.Common.{◌<◌, ◌++◌, ℕ, List, All, length, sym, ap, ◌∙◌, subst, arith}
use Rattle.branch_tree.specs.Plan.{Plan}
use Rattle.branch_tree.specs.Segments.{children_of}
use Rattle.branch_workers.proofs.worker.push_children.Goals as goal

pub push_all-requires-clause-few : goal.push_all-requires-clause-few
push_all-requires-clause-few g c =
    let s = c.args.segment in
    let e = ap (λ (xs : List ℕ). length xs) (c.children_of.ensures ∙ ap (λ (p : Plan). children_of p s) c.plan.ensures.value) in
    omega (arith, c.requires.few)

pub push_all-requires-clause-below : goal.push_all-requires-clause-below
push_all-requires-clause-below g c =
    let s = c.args.segment in
    subst (λ (xs : List ℕ). All (λ n. n < g.B.Room.room) xs) (sym (c.children_of.ensures ∙ ap (λ (p : Plan). children_of p s) c.plan.ensures.value)) c.requires.below

pub returns : goal.returns
returns g c =
    let s = c.args.segment in
    c.push_all.ensures ∙ ap (λ (xs : List ℕ). c.args.lane.now.own.view.pushed ++ xs) (c.children_of.ensures ∙ ap (λ (p : Plan). children_of p s) c.plan.ensures.value)
