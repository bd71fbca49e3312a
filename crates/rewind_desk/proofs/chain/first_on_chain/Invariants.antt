use Rattle.std.proofs.Common.{◌≤◌, ◌<◌, length}
use Rattle.branch_tree.specs.Segments.{segments_in}
use Rattle.rewind_desk.specs.Reach.{IsOn}
use Rattle.rewind_desk.proofs.chain.first_on_chain.Given as goal

-- a segment of the chain
abbrev pub invariant-loop-parent : goal.invariant-loop-parent
invariant-loop-parent l = record {
  exists : l.at < length (segments_in l.course.plan);
  on : IsOn l.course.plan l.last l.at;
  early : l.at ≤ l.last;
}

abbrev pub decreases-loop-parent : goal.decreases-loop-parent
decreases-loop-parent l = l.at
