use Rattle.std.proofs.Common.{◌≡◌, ◌++◌, drop}
use Rattle.branch_tree.specs.Segments.{segments_in}
use Rattle.branch_workers.specs.Layout.{forks_from, fork_keys}
use Rattle.branch_workers.proofs.layout.forks.Given as goal

abbrev pub invariant-loop-number : goal.invariant-loop-number
invariant-loop-number l = l.keys ++ forks_from l.plan l.number (drop l.number (segments_in l.plan)) ≡ fork_keys l.plan
