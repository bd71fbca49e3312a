use Rattle.std.proofs.Common.{◌≡◌, ◌≤◌, ◌+◌, length, take}
use Rattle.price_time_book.specs.Indexed.{open_orders}
use Rattle.price_time_book.proofs.book.Book.rest_all.Given as goal

abbrev pub invariant-loop-order : goal.invariant-loop-order
invariant-loop-order l = record {
  list : l.self.list ≡ open_orders (take l.order-index l.orders);
  room : length (open_orders l.orders) ≤ l.self.spare + length l.self.list;
}
