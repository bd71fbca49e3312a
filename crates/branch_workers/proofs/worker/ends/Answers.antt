use Rattle.branch_workers.proofs.Standing.{stays_at_work}
use Rattle.branch_workers.proofs.worker.ends.Goals as goal

pub returns-then-progress-clause-work : goal.returns-then-progress-clause-work
returns-then-progress-clause-work g c =
    let w = c.args.worker.now in
    stays_at_work c.args.shift.now.course.now.value c.args.shift.now.keep c.args.shift.now.shelf.now w.number w.seat w.steps w.outcomes.items w.lane.own.view.pushed c.requires.work c.progress-progress.new.seat c.progress-progress.ensures.same c.progress-progress.ensures.kept.0 c.progress-progress.ensures.kept.1

pub returns-clause-work : goal.returns-clause-work
returns-clause-work g c =
    let w = c.args.worker.now in
    stays_at_work c.args.shift.now.course.now.value c.args.shift.now.keep c.args.shift.now.shelf.now w.number w.seat w.steps w.outcomes.items w.lane.own.view.pushed c.requires.work c.progress-progress.new.seat c.progress-progress.ensures.same c.progress-progress.ensures.kept.0 c.progress-progress.ensures.kept.1
