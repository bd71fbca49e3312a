use Rattle.std.proofs.Common.{◌≡◌, ◌∙◌, ap, List, rules, tests}
use Rattle.std.proofs.lemmas.Iterator.{YieldsList-from_slice}
use Rattle.std.proofs.lemmas.Iterator.Search.{any_from_yields_List}
use Rattle.std.specs.List.{list_any}
use Rattle.branch_tree.specs.declared.branch.Branch.{Branch}
use Rattle.branch_tree.specs.Plan.{Plan}
use Rattle.branch_tree.specs.Stops.{is_time}
use Rattle.kernel_copy.specs.Courses.{CourseTold}
use Rattle.session_desk.proofs.script.forks_by_time.Goals as goal

pub returns : goal.returns
returns c =
    let found : c.any.result ≡ list_any (λ (b : Branch). is_time b.stop) c.branches.result.now
    = any_from_yields_List (λ (b : Branch). is_time b.stop) _ _ c.any.result c.any.ensures.ran (YieldsList-from_slice c.branches.result.now cc) (λ x b q k. search (rules, tests)) in
    found
    ∙ ap (λ (bs : List Branch). list_any (λ (b : Branch). is_time b.stop) bs)
    (c.branches.ensures.value ∙ ap (λ (p : Plan). p.branches) (c.plan.ensures.value ∙ ap (λ (x : CourseTold). x.plan) c.deref.ensures))
