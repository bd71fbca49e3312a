use Rattle.std.proofs.Common.{◌≡◌}
use Rattle.kernel_copy.specs.Closing.{positions_closed}
use Rattle.kernel_copy.proofs.closing.positions.Given as goal

abbrev pub invariant-loop-k : goal.invariant-loop-k
invariant-loop-k l = l.positions.items ≡ positions_closed l.exchange l.agent l.k
