use Rattle.std.proofs.Common.{◌<◌, ◌^◌, length, ap, ◌∙◌, subst}
use Rattle.branch_tree.specs.Plan.{Plan}
use Rattle.branch_tree.specs.Segments.{segments_in}
use Rattle.kernel_copy.specs.Courses.{CourseTold, IsCourse}
use Rattle.kernel_copy.proofs.Adding.{own-bound, distinct-bound}
use Rattle.kernel_copy.proofs.laws.segments_have_few_events.Goals as goal

pub returns-clause-each : goal.returns-clause-each
returns-clause-each c s below =
    own-bound c.args.course.now.value s (subst IsCourse c.deref.ensures c.know_course.ensures) below

pub returns-clause-all : goal.returns-clause-all
returns-clause-all c =
    let k : CourseTold = c.args.course.now.value in
    let plan = c.plan.ensures.value ∙ ap (λ (x : CourseTold). x.plan) c.deref-2.ensures in
    distinct-bound k (subst IsCourse c.deref.ensures c.know_course.ensures) (subst (λ (p : Plan). length (segments_in p) < 2 ^ 32) plan c.is_tree.ensures.few)
