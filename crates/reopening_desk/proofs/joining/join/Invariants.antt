use Rattle.std.proofs.Common.{◌≡◌, ◌++◌, map, take}
use Rattle.reopening_desk.specs.Filed.{numbered_after}
use Rattle.reopening_desk.proofs.joining.join.Given as goal

abbrev pub invariant-loop-order : goal.invariant-loop-order
invariant-loop-order l = l.list.items ≡ l.fn.list.items ++ map (numbered_after l.last) (take l.order-index l.orders)
