use Rattle.std.proofs.Common.{◌≡◌, drop}
use Rattle.shelf_core.specs.Plan.{are_distinct}
use Rattle.shelf_core.proofs.possible.are_distinct.Given as goal

abbrev pub invariant-loop-i : goal.invariant-loop-i
invariant-loop-i l = are_distinct l.keys ≡ are_distinct (drop l.i l.keys)
