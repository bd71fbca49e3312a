use Rattle.market_floor.specs.Reaction.{most_posted}
use Rattle.std.proofs.Common.{◌≡◌, ◌≤◌, ◌+◌, ◌*◌, true, All}
use Rattle.market_rules.specs.EditRanges.{is_near_zero}
use Rattle.kernel_core.specs.Step.{Fits}
use Rattle.kernel_tests.proofs.kernel_examples.branch.Given as goal

abbrev pub invariant-loop-i : goal.invariant-loop-i
invariant-loop-i g l = record {
  fits : Fits l.o l.kernel;
  near : All (λ z. is_near_zero (2000000000 * l.i) z ≡ true) l.kernel.floor.offsets;
  drops : l.kernel.post.dropped ≤ most_posted + l.i;
}
