use Rattle.std.proofs.Common.{◌≡◌, ◌++◌, drop}
use Rattle.branch_tree.specs.Segments.{segments_in}
use Rattle.branch_workers.specs.Layout.{grids_from, grid_keys}
use Rattle.branch_workers.proofs.layout.grid.Given as goal

abbrev pub invariant-loop-number : goal.invariant-loop-number
invariant-loop-number l = l.keys ++ grids_from l.plan.limit l.stride l.number (drop l.number (segments_in l.plan)) ≡ grid_keys l.plan l.stride
