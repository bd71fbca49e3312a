use Rattle.std.proofs.Common.{◌≡◌, ◌<◌, length}
use Rattle.branch_tree.specs.Segments.{segments_in}
use Rattle.rewind_desk.specs.Best.{is_on}
use Rattle.rewind_desk.proofs.finding.is_on_chain.Given as goal

-- the segment is on the chain that is left just as it is on the whole
abbrev pub invariant-loop-at : goal.invariant-loop-at
invariant-loop-at l = record {
  exists : l.at < length (segments_in l.course.plan);
  same : is_on l.course.plan l.at l.segment ≡ is_on l.course.plan l.last l.segment;
}

abbrev pub decreases-loop-at : goal.decreases-loop-at
decreases-loop-at l = l.at
