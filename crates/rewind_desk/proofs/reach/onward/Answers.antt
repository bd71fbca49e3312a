use Rattle.std.proofs.Common.{arith}
use Rattle.kernel_copy.specs.Courses.{CourseTold}
use Rattle.rewind_desk.proofs.Arrivals.{at-end, at-parent, at-within}
use Rattle.rewind_desk.proofs.reach.onward.Goals as goal

pub returns-then-before-clause-at : goal.returns-then-before-clause-at
returns-then-before-clause-at g c =
    let k : CourseTold = c.args.course.now in
    at-parent k c.args.segment c.args.parent c.args.event c.args.before.kernel c.args.before.has_more c.know_course.ensures c.requires.segment c.requires.parent c.if-before.true c.requires.at

pub returns-then-before-clause-most : goal.returns-then-before-clause-most
returns-then-before-clause-most g c =
    omega (arith, at-within c.args.course.now c.args.parent c.args.event c.args.before.kernel c.args.before.has_more c.requires.at)

pub from_parent-requires-clause-end : goal.from_parent-requires-clause-end
from_parent-requires-clause-end g c = at-end c.args.course.now c.args.parent c.args.event c.args.before.kernel c.args.before.has_more c.if-before.false c.requires.at

pub from_parent-requires-clause-from : goal.from_parent-requires-clause-from
from_parent-requires-clause-from g c =
    omega (arith, at-within c.args.course.now c.args.parent c.args.event c.args.before.kernel c.args.before.has_more c.requires.at)
