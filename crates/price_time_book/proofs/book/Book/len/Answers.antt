use Rattle.std.proofs.Common.{length, ap, arith}
use Rattle.price_time_book.specs.Indexed.{open_orders}
use Rattle.price_time_book.proofs.Stays.{both_sides}
use Rattle.price_time_book.proofs.book.Book.len.Goals as goal

pub returns : goal.returns
returns c =
    let k = c.self.inside in
    omega (arith, c.self.invariant.buy_count, c.self.invariant.sell_count, both_sides (open_orders k.orders.items), ap (λ r. length r.list) c.self.view_is)
