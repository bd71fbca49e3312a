use Rattle.std.proofs.Common.{◌≡◌, ◌∙◌, ◌+◌, ◌++◌, ◌∷◌, [], List, ℕ, length, suc, sym, ap, arith}
use Rattle.branch_tree.specs.declared.branch.Branch.{Branch}
use Rattle.branch_tree.specs.Plan.{Plan}
use Rattle.kernel_copy.specs.Courses.{CourseTold}
use Rattle.abides_run.specs.Rewinds.{lasts_before}
use Rattle.abides_run.proofs.rewinds.last_events.Goals as goal

pub loop-branch-preserved : goal.loop-branch-preserved
loop-branch-preserved g c =
    let k : CourseTold = c.args.course.now in
    let b = c.loop-branch.branch in
    let one : b + 1 ≡ suc b = omega arith in
    c.in_ok-push.ensures.items
    ∙ ap (λ (xs : List ℕ). xs ++ c.events_of_branch.result ∷ []) c.loop-branch.invariant
    ∙ ap (λ (n : ℕ). lasts_before k b ++ n ∷ []) c.events_of_branch.ensures
    ∙ sym (ap (λ (n : ℕ). lasts_before k n) one)

pub loop-branch-init : goal.loop-branch-init
loop-branch-init g c = c.new-lasts.ensures.items

pub events_of_branch-requires-clause-branch : goal.events_of_branch-requires-clause-branch
events_of_branch-requires-clause-branch g c =
    let all = ap (λ (bs : List Branch). length bs) c.branches.ensures.value in
    let plan = ap (λ (p : Plan). length p.branches) c.plan.ensures.value in
    omega (arith, c.loop-branch-test.true, all, plan)

pub events_of_branch-requires-clause-ran : goal.events_of_branch-requires-clause-ran
events_of_branch-requires-clause-ran g c = c.requires

pub returns : goal.returns
returns g c =
    let k : CourseTold = c.args.course.now in
    let all = ap (λ (bs : List Branch). length bs) c.branches.ensures.value in
    let plan = ap (λ (p : Plan). length p.branches) c.plan.ensures.value in
    let done : c.loop-branch.branch ≡ length k.plan.branches = omega (arith, c.loop-branch-test.false, c.loop-branch.auto.branch-end, all, plan) in
    c.loop-branch.invariant ∙ ap (λ (n : ℕ). lasts_before k n) done
