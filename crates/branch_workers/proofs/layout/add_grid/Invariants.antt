use Rattle.std.proofs.Common.{◌≡◌, ◌++◌, ◌-◌}
use Rattle.branch_workers.specs.Layout.{grid_of}
use Rattle.branch_workers.proofs.Multiples.{each_from}
use Rattle.branch_workers.proofs.layout.add_grid.Given as goal

abbrev pub invariant-loop-factor : goal.invariant-loop-factor
invariant-loop-factor l = l.keys ++ each_from l.stride l.number l.factor (l.past - l.factor) ≡ l.initial.keys ++ grid_of l.fn.limit l.stride l.number l.fn.segment
