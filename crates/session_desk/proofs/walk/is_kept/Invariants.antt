use Rattle.std.proofs.Common.{◌≡◌, ◌<◌, length, is_some}
use Rattle.std.specs.Prelude.{not}
use Rattle.session_desk.specs.Anchors.{follower_of}
use Rattle.session_desk.proofs.walk.is_kept.Given as goal

-- what is left of the path is the study's own just where the whole is
abbrev pub invariant-loop-at : goal.invariant-loop-at
invariant-loop-at l = record {
  exists : l.at < length l.session.branches;
  same : not (is_some (follower_of l.session l.at)) ≡ not (is_some (follower_of l.session l.branch));
}

abbrev pub decreases-loop-at : goal.decreases-loop-at
decreases-loop-at l = l.at
