use Rattle.std.proofs.Common.{◌∙◌, List, ap, eqb, ◌&&◌}
use Rattle.std.specs.Prelude.{bytes_eq}
use Rattle.price_time_book.specs.declared.resting.Resting.{Resting}
use Rattle.price_time_book.specs.Indexed.{open_orders}
use Rattle.price_time_book.specs.Orders.{order_of}
use Rattle.price_time_book.proofs.Places.{lent_is_live, lent_by_reference}
use Rattle.price_time_book.proofs.book.Book.find.Goals as goal

pub returns-clause-live : goal.returns-clause-live
returns-clause-live c =
    let same = ap (λ b. b.list) c.self.view_is in
    lent_is_live (λ (o : Resting). eqb o.agent c.args.agent && bytes_eq o.token.0 c.args.token.now.0) (open_orders c.self.inside.orders.items) c.args.self.now.list c.order_of.result same c.self.invariant.orderly (c.order_of.ensures ∙ ap (λ (s : List Resting). order_of c.args.agent c.args.token.now (open_orders s)) c.as_slice.ensures.value ∙ ap (order_of c.args.agent c.args.token.now) same)

pub returns-clause-by_reference : goal.returns-clause-by_reference
returns-clause-by_reference c =
    let same = ap (λ b. b.list) c.self.view_is in
    lent_by_reference (λ (o : Resting). eqb o.agent c.args.agent && bytes_eq o.token.0 c.args.token.now.0) (open_orders c.self.inside.orders.items) c.args.self.now.list c.order_of.result same c.self.invariant.orderly (c.order_of.ensures ∙ ap (λ (s : List Resting). order_of c.args.agent c.args.token.now (open_orders s)) c.as_slice.ensures.value ∙ ap (order_of c.args.agent c.args.token.now) same)
