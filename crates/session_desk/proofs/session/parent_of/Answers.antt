use Rattle.std.proofs.Common.{◌≡◌, ◌<◌, ℕ, List, length, get_or, ap, ◌∙◌, arith}
use Rattle.std.proofs.lemmas.List.{get_or_default}
use Rattle.branch_tree.specs.declared.branch.Branch.{Branch}
use Rattle.branch_tree.specs.Plan.{no_branch, parent_at}
use Rattle.session_desk.proofs.Numbered.{numbered}
use Rattle.session_desk.proofs.session.parent_of.Goals as goal

pub returns-clause-earlier : goal.returns-clause-earlier
returns-clause-earlier c pos =
    let s = c.args.session.now in
    let b = c.args.branch in
    let tree = c.tree.result.now in
    let x = c.index-tree-from.result in
    let count = ap (λ (bs : List Branch). length bs) c.tree.ensures.value in
    let within : c.from.result < length tree = omega (arith, count, c.from.ensures, c.requires) in
    let at : (get_or tree c.from.result x).parent ≡ parent_at s.branches b =
    ap (λ (y : Branch). y.parent) (get_or_default tree c.from.result x no_branch within)
    ∙ ap (λ (bs : List Branch). parent_at bs c.from.result) c.tree.ensures.value
    ∙ ap (λ (i : ℕ). parent_at s.branches i) c.from.ensures in
    omega (arith, at, (numbered s c.tree.ensures.session).tree.parents b pos c.requires)
