use Rattle.std.proofs.Common.{◌≡◌, ◌++◌, drop}
use Rattle.std.specs.List.{flat_map}
use Rattle.reopening_desk.specs.Reopening.{add_frame}
use Rattle.reopening_desk.proofs.whole.put_orders.Given as goal

-- what was appended and what is still to come
abbrev pub invariant-loop-order : goal.invariant-loop-order
invariant-loop-order l =
    l.out.items ++ flat_map (add_frame l.at) (drop l.order-index l.orders) ≡ l.initial.out.items ++ flat_map (add_frame l.at) l.orders
