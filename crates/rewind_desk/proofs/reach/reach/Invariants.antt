use Rattle.std.proofs.Common.{◌≡◌, ◌≤◌, ◌<◌, ◌+◌, ◌-◌, length}
use Rattle.branch_tree.specs.Segments.{segments_in}
use Rattle.rewind_desk.specs.Nearest.{events_of}
use Rattle.rewind_desk.specs.Reach.{IsAt, IsOn}
use Rattle.rewind_desk.proofs.reach.reach.Given as goal

-- what was reached of a segment of the chain
abbrev pub invariant-loop-at : goal.invariant-loop-at
invariant-loop-at g l = record {
  exists : l.at < length (segments_in l.course.plan);
  on : IsOn l.course.plan l.segment l.at;
  early : l.at ≤ l.segment;
  reached : IsAt l.course l.at l.event l.arrival.kernel l.arrival.has_more;
  ticks : l.steps + events_of l.fn.near ≡ l.fn.steps + l.arrival.kernel.events;
  least : l.fn.steps ≤ l.steps;
}

abbrev pub decreases-loop-at : goal.decreases-loop-at
decreases-loop-at g l = l.segment - l.at
