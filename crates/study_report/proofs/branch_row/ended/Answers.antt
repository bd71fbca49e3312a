use Rattle.std.proofs.Common.{◌∙◌, ap}
use Rattle.bundle_frames.specs.declared.closing.Closing.{Closing}
use Rattle.kernel_core.specs.Step.{end_of}
use Rattle.kernel_copy.specs.Courses.{CourseTold}
use Rattle.study_report.specs.Tables.{lettered, run_of}
use Rattle.study_report.proofs.Ending.{letter-says}
use Rattle.study_report.proofs.branch_row.ended.Goals as goal

pub returns-clause-events : goal.returns-clause-events
returns-clause-events g c = ap (λ (x : Closing). x.counts.events) c.closing_of_branch-closing.ensures.value

pub returns-clause-end : goal.returns-clause-end
returns-clause-end g c =
    let k : CourseTold = c.args.course.now in
    c.ending.ensures ∙ ap (λ (x : Closing). lettered x.counts.end) c.closing_of_branch-closing.ensures.value
    ∙ letter-says (end_of k.opening (run_of k c.args.branch).state)
