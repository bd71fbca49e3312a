use Rattle.std.proofs.Common.{◌≡◌, ◌++◌, drop}
use Rattle.reopen_cross.specs.Places.{filled_along}
use Rattle.reopen_cross.proofs.filling.fill_along.Given as goal

abbrev pub invariant-loop-order : goal.invariant-loop-order
invariant-loop-order l = l.parts.items ++ filled_along l.wanted (drop l.order-index l.orders) ≡ l.initial.parts.items ++ filled_along l.shares l.orders
