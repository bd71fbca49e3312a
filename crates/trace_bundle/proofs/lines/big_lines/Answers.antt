use Rattle.std.proofs.Common.{◌≡◌, List, length, ap, ◌∙◌}
use Rattle.branch_tree.specs.Plan.{Plan}
use Rattle.branch_tree.specs.declared.branch.Branch.{Branch}
use Rattle.trace_bundle.proofs.Sums.{lines-told}
use Rattle.trace_bundle.proofs.lines.big_lines.Goals as goal

pub returns : goal.returns
returns g c =
    let k = c.args.course.now in
    let bundle = c.in_ok-bundle.bundle in
    let few : length c.branches-branches.result.now ≡ length k.plan.branches = ap (λ (xs : List Branch). length xs) (c.branches-branches.ensures.value ∙ ap (λ (p : Plan). p.branches) c.plan.ensures.value) in
    c.in_ok-six_lines.ensures
    ∙ lines-told c.args.study (length c.branches-branches.result.now) c.events_of_all-events.result c.args.distinct bundle.count bundle.total k
    few c.events_of_all-events.ensures c.requires.distinct c.in_ok-bundle.ensures.count c.in_ok-bundle.ensures.total
