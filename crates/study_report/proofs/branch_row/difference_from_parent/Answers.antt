use Rattle.std.proofs.Common.{◌≡◌, ◌∙◌, ℕ, List, IfOk, ap, ap₂, drop, subst, sym, take}
use Rattle.kernel_copy.specs.Courses.{CourseTold}
use Rattle.study_report.specs.Chains.{entries_along}
use Rattle.study_report.specs.Difference.{events_in, first_apart}
use Rattle.study_report.specs.Tables.{difference}
use Rattle.study_report.proofs.Chained.{apart-behind_shared, difference-later}
use Rattle.study_report.proofs.branch_row.difference_from_parent.Goals as goal

pub returns : goal.returns
returns g c =
    let k : CourseTold = c.args.course.now in
    let n = c.shared_count-shared.result in
    let own = c.in_ok-own.own.items in
    let others = c.in_ok-others.others.items in
    let apart : List ℕ → List ℕ → ℕ = λ xs ys. first_apart (events_in (entries_along k xs)) (events_in (entries_along k ys)) in
    let same : take n own ≡ take n others =
    ap (λ (xs : List ℕ). take n xs) (sym c.as_slice.ensures.value) ∙ c.shared_count-shared.ensures.same ∙ ap (λ (xs : List ℕ). take n xs) c.as_slice-2.ensures.value in
    let own_rest : c.split_at.result.1.now ≡ drop n own = c.split_at.ensures.back ∙ ap (λ (xs : List ℕ). drop n xs) c.as_slice-3.ensures.value in
    let others_rest : c.split_at-2.result.1.now ≡ drop n others = c.split_at-2.ensures.back ∙ ap (λ (xs : List ℕ). drop n xs) c.as_slice-4.ensures.value in
    let is : apart c.split_at.result.1.now c.split_at-2.result.1.now ≡ difference k c.args.branch =
    ap₂ apart own_rest others_rest
    ∙ apart-behind_shared k c.args.branch c.parent_of.result own others n c.in_ok-own.ensures c.in_ok-others.ensures same
    ∙ difference-later k c.args.branch c.parent_of.result c.if-branch-eq0.false c.parent_of.ensures.value in
    subst (λ (x : ℕ). IfOk c.difference_along.result (λ d. d ≡ x)) is c.difference_along.ensures
