use Rattle.std.proofs.Common.{ap, subst}
use Rattle.price_time_book.specs.Orderly.{IsOrderly}
use Rattle.price_time_book.proofs.book.Book.know_order.Goals as goal

pub returns : goal.returns
returns c = subst IsOrderly (ap (λ b. b.list) c.self.view_is) c.self.invariant.orderly
