use Rattle.std.proofs.Common.{◌∙◌, ◌<◌, ℕ, inl, inr, List, length, get_or, ap, ap₂, sym, subst, arith}
use Rattle.std.proofs.lemmas.Bool.{cases_eq}
use Rattle.std.proofs.lemmas.List.{get_or_default}
use Rattle.branch_tree.specs.declared.branch.Branch.{Branch}
use Rattle.branch_tree.specs.Plan.{Plan, no_branch, parent_at}
use Rattle.kernel_copy.specs.Courses.{CourseTold}
use Rattle.kernel_copy.proofs.Trees.{course-tree}
use Rattle.study_report.proofs.branch_row.parent_of.Goals as goal

pub returns-clause-within : goal.returns-clause-within
returns-clause-within c =
    let k : CourseTold = c.args.course.now in
    let b = c.args.branch in
    let x = c.index-branches-from.result in
    let course = c.plan.ensures.course in
    let tree = course-tree k course in
    let within : parent_at k.plan.branches b < length k.plan.branches = elim (cases_eq b 0) [
      | inl root ↦ omega (arith, ap (λ (n : ℕ). parent_at k.plan.branches n) root, course.rooted.parent, course.rooted.some)
      | inr later ↦ omega (arith, tree.parents b (omega arith) c.requires, c.requires)
    ] in
    let is = ap₂ (λ (bs : List Branch) (n : ℕ). (get_or bs n x).parent) (c.branches.ensures.value ∙ ap (λ (p : Plan). p.branches) c.plan.ensures.value) c.from.ensures
    ∙ ap (λ (y : Branch). y.parent) (get_or_default k.plan.branches b x no_branch c.requires) in
    subst (λ (n : ℕ). n < length k.plan.branches) (sym is) within
