use Rattle.shelf_core.specs.Orderly.{Orderly}
use Rattle.base_tests.proofs.shelf_core_tests.make_all.Given as goal

abbrev pub invariant-loop-i : goal.invariant-loop-i
invariant-loop-i g l = Orderly l.s
