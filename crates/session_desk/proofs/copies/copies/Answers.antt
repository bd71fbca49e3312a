use Rattle.std.proofs.Common.{◌≡◌, ◌∙◌, ◌++◌, ◌∷◌, [], List, get_or, sym, ap}
use Rattle.std.proofs.lemmas.List.{take_more}
use Rattle.branch_tree.specs.declared.branch.Branch.{Branch}
use Rattle.session_desk.proofs.copies.copies.Goals as goal

pub loop-branch-preserved : goal.loop-branch-preserved
loop-branch-preserved c =
    let branches = c.args.branches.now in
    let i = c.loop-branch.branch-index in
    let next = c.branch-item.result in
    let same : c.in-Ok.copy ≡ get_or branches i next = c.in-Ok.ensures ∙ c.branch-item.is in
    c.in-Ok-push.ensures.items
    ∙ ap (λ (b : Branch). c.loop-branch.copied.items ++ b ∷ []) same
    ∙ ap (λ (bs : List Branch). bs ++ get_or branches i next ∷ []) c.loop-branch.invariant
    ∙ sym (take_more branches i next c.loop-branch-test.true)
