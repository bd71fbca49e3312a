use Rattle.std.proofs.Common.{◌<◌, ℕ, List, length, get_or, sym, ap, ◌∙◌, subst}
use Rattle.branch_tree.specs.Plan.{Plan}
use Rattle.branch_tree.specs.Segments.{numbers_of, segments_in}
use Rattle.kernel_copy.specs.Courses.{CourseTold}
use Rattle.trace_bundle.proofs.Origins.{first-exists, first-number}
use Rattle.trace_bundle.proofs.forks.first_segment.Goals as goal

pub returns-clause-value : goal.returns-clause-value
returns-clause-value c =
    let k : CourseTold = c.args.course.now in
    let b = c.args.branch in
    ap (λ (ns : List ℕ). get_or ns 0 0) (c.segments_of-numbers.ensures ∙ ap (λ (p : Plan). numbers_of p b) c.plan.ensures.value) ∙ first-number k.plan b 0

pub returns-clause-exists : goal.returns-clause-exists
returns-clause-exists c =
    let k : CourseTold = c.args.course.now in
    let b = c.args.branch in
    let number = ap (λ (ns : List ℕ). get_or ns 0 0) (c.segments_of-numbers.ensures ∙ ap (λ (p : Plan). numbers_of p b) c.plan.ensures.value) ∙ first-number k.plan b 0 in
    subst (λ (n : ℕ). n < length (segments_in k.plan)) (sym number) (first-exists k.plan b c.requires)
