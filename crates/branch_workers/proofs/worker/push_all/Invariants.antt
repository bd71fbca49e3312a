use Rattle.std.proofs.Common.{◌≡◌, ◌++◌, take}
use Rattle.branch_workers.proofs.worker.push_all.Given as goal

abbrev pub invariant-loop-segment : goal.invariant-loop-segment
invariant-loop-segment g l = l.lane.own.view.pushed ≡ l.initial.lane.own.view.pushed ++ take l.segment-index l.segments
