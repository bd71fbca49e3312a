use Rattle.std.proofs.Common.{◌≡◌, ℕ, List, get_or, sym, ap, ◌∙◌, subst}
use Rattle.branch_tree.specs.declared.segment.Segment.{Segment}
use Rattle.branch_tree.specs.Plan.{Plan}
use Rattle.branch_tree.specs.Segments.{segments_in, segment_at, no_segment}
use Rattle.kernel_copy.specs.Segmentwise.{fork_number, after}
use Rattle.kernel_copy.specs.Courses.{CourseTold, IsCourse, IsKeyOf}
use Rattle.branch_tree.specs.Planned.{IsTree}
use Rattle.kernel_copy.proofs.Trees.{course-tree}
use Rattle.kernel_copy.proofs.Keeping.{end-key, end-state}
use Rattle.kernel_copy.proofs.run.kept_end.Goals as goal

pub keep-requires-clause-key : goal.keep-requires-clause-key
keep-requires-clause-key c =
    let k : CourseTold = c.args.course.now.value in
    let s = c.args.segment in
    let course : IsCourse k = subst IsCourse c.deref.ensures c.plan-plan.ensures.course in
    let plan : c.plan-plan.result.now ≡ k.plan = c.plan-plan.ensures.value ∙ ap (λ (x : CourseTold). x.plan) c.deref.ensures in
    let segments : c.segments.result.now ≡ segments_in k.plan = c.segments.ensures.value ∙ ap (λ (p : Plan). segments_in p) plan in
    let event : c.number_of_end-event.result ≡ fork_number (segment_at k.plan s).stop =
    c.number_of_end-event.ensures ∙ ap (λ (xs : List Segment). fork_number (get_or xs s no_segment).stop) segments in
    subst (λ (e : ℕ). IsKeyOf k (record { segment = s; event = e })) (sym event) (end-key k s c.requires.segment)

pub keep-requires-clause-state : goal.keep-requires-clause-state
keep-requires-clause-state c =
    let k : CourseTold = c.args.course.now.value in
    let s = c.args.segment in
    let course : IsCourse k = subst IsCourse c.deref.ensures c.plan-plan.ensures.course in
    let plan : c.plan-plan.result.now ≡ k.plan = c.plan-plan.ensures.value ∙ ap (λ (x : CourseTold). x.plan) c.deref.ensures in
    let segments : c.segments.result.now ≡ segments_in k.plan = c.segments.ensures.value ∙ ap (λ (p : Plan). segments_in p) plan in
    let event : c.number_of_end-event.result ≡ fork_number (segment_at k.plan s).stop =
    c.number_of_end-event.ensures ∙ ap (λ (xs : List Segment). fork_number (get_or xs s no_segment).stop) segments in
    subst (λ (e : ℕ). c.args.kernel.now ≡ after k.opening k.plan (segment_at k.plan s) e) (sym event) (c.requires.state ∙ end-state k s)

pub goes_on-requires-clause-tree : goal.goes_on-requires-clause-tree
goes_on-requires-clause-tree c =
    let k : CourseTold = c.args.course.now.value in
    let course : IsCourse k = subst IsCourse c.deref.ensures c.plan-plan.ensures.course in
    let plan : c.plan-plan.result.now ≡ k.plan = c.plan-plan.ensures.value ∙ ap (λ (x : CourseTold). x.plan) c.deref.ensures in
    subst (λ (p : Plan). IsTree p.branches p.limit) (sym plan) (course-tree k course)
