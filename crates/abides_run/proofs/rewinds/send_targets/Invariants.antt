use Rattle.std.proofs.Common.{◌≡◌, ◌≤◌, ◌+◌, sum_by, take}
use Rattle.std.specs.List.{flat_map}
use Rattle.outside.specs.Taken.{appended}
use Rattle.abides_run.specs.Rewinds.{steps_from, target_frames}
use Rattle.abides_run.proofs.rewinds.send_targets.Given as goal

-- the frames of the targets so far were sent, and the steps to them made
abbrev pub invariant-loop-i : goal.invariant-loop-i
invariant-loop-i g l = record {
  taken : g.O.Sink.taken l.out ≡ appended (g.O.Sink.taken l.initial.out) (flat_map (target_frames l.course.value) (take l.i l.targets));
  faults : g.O.Sink.faults l.out ≡ g.O.Sink.faults l.initial.out;
  least : l.initial.steps ≤ l.steps;
  most : l.steps ≤ l.initial.steps + sum_by (steps_from l.shelf) (take l.i l.targets);
}
