use Rattle.std.proofs.Common.{◌≤◌, All, length}
use Rattle.reopen_cross.specs.declared.cross.Interest.{Interest}
use Rattle.reopen_cross.specs.Orderly.{AreInterests}
use Rattle.branch_tests.proofs.reopen_cross_tests.list_of.Given as goal

abbrev pub invariant-loop-row : goal.invariant-loop-row
invariant-loop-row l = record {
  interests : AreInterests l.list.items;
  numbered : All (λ (o : Interest). o.reference ≤ length l.list.items) l.list.items;
}
