use Rattle.std.proofs.Common.{subst}
use Rattle.kernel_copy.specs.declared.run.Outcome.{Outcome}
use Rattle.kernel_copy.specs.Courses.{CourseTold, IsCourse}
use Rattle.kernel_copy.specs.Kept.{IsWritable, kept_told}
use Rattle.branch_workers.proofs.Gathering.{moved}
use Rattle.branch_workers.proofs.Timing.{outcomes_timely}
use Rattle.branch_tests.proofs.branch_workers_tests.frames.Goals as goal

pub frames_of-bytes-requires : goal.frames_of-bytes-requires
frames_of-bytes-requires g c =
    let k : CourseTold = c.args.course.now.value in
    let course = subst IsCourse c.deref.ensures c.know_course.ensures in
    let os = c.in-Ok.worked.outcomes.items in
    moved c.as_slice.result.now os c.as_slice.ensures.value (λ (o : Outcome). IsWritable (kept_told o.kept))
    (outcomes_timely k c.args.keep (λ s l. c.courses_stay_in_range.ensures.segments k s course l) os c.in-Ok.ensures.outcomes)
