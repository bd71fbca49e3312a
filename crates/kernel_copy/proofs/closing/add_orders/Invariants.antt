use Rattle.std.proofs.Common.{◌≡◌, ◌++◌, take, map}
use Rattle.kernel_copy.specs.Closing.{order_closed}
use Rattle.kernel_copy.proofs.closing.add_orders.Given as goal

abbrev pub invariant-loop-resting : goal.invariant-loop-resting
invariant-loop-resting l = l.orders.items ≡ l.initial.orders.items ++ map (order_closed l.k) (take l.resting-index l.book)
