use Rattle.std.proofs.Common.{◌≡◌}
use Rattle.kernel_copy.specs.Closing.{orders_closed}
use Rattle.kernel_copy.proofs.closing.orders.Given as goal

abbrev pub invariant-loop-k : goal.invariant-loop-k
invariant-loop-k l = l.orders.items ≡ orders_closed l.exchange l.k
