use Rattle.std.proofs.Common.{subst}
use Rattle.kernel_copy.specs.Courses.{CourseTold, IsCourse}
use Rattle.rewind_desk.proofs.Lefts.{after-left}
use Rattle.rewind_desk.proofs.left.know_left.Goals as goal

pub returns : goal.returns
returns c =
    let k : CourseTold = c.args.course.now.value in
    let course : IsCourse k = subst (λ (x : CourseTold). IsCourse x) c.deref.ensures c.know_course.ensures in
    λ stride places workers after. after-left k stride places workers c.args.shelf.now course c.nearest_to.ensures.of after
