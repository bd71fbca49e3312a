use Rattle.std.proofs.Common.{◌≡◌, false}
use Rattle.branch_workers.specs.Workers.{IsAtWork}
use Rattle.branch_workers.proofs.worker.run_worker.Given as goal

abbrev pub invariant-loop : goal.invariant-loop
invariant-loop g l = record {
  can : (goal.iterator-loop g).can_next l.iterator';
  fin : (goal.iterator-loop g).is_finite l.iterator';
  number : l.worker.number ≡ l.initial.worker.number;
  finished : l.worker.finished ≡ false;
  work : IsAtWork l.shift.course.now.value l.shift.keep l.shift.shelf.now l.worker.number l.worker.seat l.worker.steps l.worker.outcomes.items l.worker.lane.own.view.pushed;
}
