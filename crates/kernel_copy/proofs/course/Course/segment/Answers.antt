use Rattle.std.proofs.Common.{List, get_or, ap, ◌∙◌}
use Rattle.branch_tree.specs.declared.segment.Segment.{Segment}
use Rattle.branch_tree.specs.Plan.{Plan}
use Rattle.branch_tree.specs.Segments.{segments_in, no_segment}
use Rattle.kernel_copy.specs.Courses.{CourseTold}
use Rattle.kernel_copy.proofs.Keeping.{segment-facts}
use Rattle.kernel_copy.proofs.course.Course.segment.Goals as goal

pub returns-clause-branch : goal.returns-clause-branch
returns-clause-branch c =
    let k : CourseTold = c.args.self.now in
    let s = c.args.segment in
    let e = ap (λ (xs : List Segment). get_or xs s no_segment) (c.segments.ensures.value ∙ ap (λ (p : Plan). segments_in p) c.plan.ensures.value) in
    (segment-facts k s _ c.plan.ensures.course c.requires e).0

pub returns-clause-within : goal.returns-clause-within
returns-clause-within c =
    let k : CourseTold = c.args.self.now in
    let s = c.args.segment in
    let e = ap (λ (xs : List Segment). get_or xs s no_segment) (c.segments.ensures.value ∙ ap (λ (p : Plan). segments_in p) c.plan.ensures.value) in
    (segment-facts k s _ c.plan.ensures.course c.requires e).1

pub returns-clause-parent : goal.returns-clause-parent
returns-clause-parent c q is =
    let k : CourseTold = c.args.self.now in
    let s = c.args.segment in
    let e = ap (λ (xs : List Segment). get_or xs s no_segment) (c.segments.ensures.value ∙ ap (λ (p : Plan). segments_in p) c.plan.ensures.value) in
    (segment-facts k s _ c.plan.ensures.course c.requires e).2 q is
