use Rattle.std.proofs.Common.{ℕ, ap, ◌∙◌, arith}
use Rattle.branch_tree.specs.declared.segment.Segment.{Segment}
use Rattle.branch_tree.specs.Segments.{segment_at}
use Rattle.kernel_copy.specs.Courses.{CourseTold}
use Rattle.trace_bundle.proofs.Origins.{first-parent}
use Rattle.trace_bundle.proofs.forks.origin.Goals as goal

pub returns-clause-value : goal.returns-clause-value
returns-clause-value c =
    let k : CourseTold = c.args.course.now in
    ap (λ (g : Segment). g.parent) c.segment.ensures.value
    ∙ ap (λ (n : ℕ). (segment_at k.plan n).parent) c.first_segment-first.ensures.value
    ∙ first-parent k.plan c.args.branch c.requires

pub returns-clause-exists : goal.returns-clause-exists
returns-clause-exists c q is =
    let earlier = (c.segment.ensures.parent q is).earlier in
    omega (arith, earlier, c.first_segment-first.ensures.exists)
