use Rattle.reopen_cross.proofs.Ladders.{buys-by-price, sells-by-price}
use Rattle.reopen_cross.proofs.sides.Sides.new.Goals as goal

pub invariant_of-result : goal.invariant_of-result
invariant_of-result c = record {
  bought = λ p. buys-by-price c.args.list.now c.in_ok-buys.buys.orders.items p c.in_ok-buys.ensures;
  sold = λ p. sells-by-price c.args.list.now c.in_ok-sells.sells.orders.items p c.in_ok-sells.ensures;
}
