use Rattle.std.proofs.Common.{◌≡◌, ap, subst, sym, ◌∙◌}
use Rattle.market_types.specs.declared.order.Side.{Side}
use Rattle.market_types.specs.declared.order.Side.TheVariants.{Buy, Sell}
use Rattle.price_time_book.specs.Indexed.{IsIndexed}
use Rattle.price_time_book.specs.Next.{crossing_of}
use Rattle.price_time_book.specs.Queues.{hidden_of, shown_of}
use Rattle.price_time_book.specs.Sides.{opposite_of}
use Rattle.price_time_book.proofs.book.Book.is_met.Goals as goal

pub returns-in-Buy : goal.returns-in-Buy
returns-in-Buy c = λ h.
    let k = c.self.inside in
    let other : opposite_of c.args.side ≡ Sell = ap opposite_of c.in-Buy.is in
    let shown = subst (λ (s : Side). IsIndexed (shown_of s) k.orders.items k.nexts.items k.sells.shown.items) (sym other) c.self.invariant.sells in
    let hidden = subst (λ (s : Side). IsIndexed (hidden_of s) k.orders.items k.nexts.items k.sells.hidden.items) (sym other) c.self.invariant.hidden_sells in
    sym (ap (λ b. crossing_of c.args.side c.args.limit b.list) c.self.view_is) ∙ c.is_met.ensures k.orders.items k.nexts.items shown hidden h

pub returns-in-Sell : goal.returns-in-Sell
returns-in-Sell c = λ h.
    let k = c.self.inside in
    let other : opposite_of c.args.side ≡ Buy = ap opposite_of c.in-Sell.is in
    let shown = subst (λ (s : Side). IsIndexed (shown_of s) k.orders.items k.nexts.items k.buys.shown.items) (sym other) c.self.invariant.buys in
    let hidden = subst (λ (s : Side). IsIndexed (hidden_of s) k.orders.items k.nexts.items k.buys.hidden.items) (sym other) c.self.invariant.hidden_buys in
    sym (ap (λ b. crossing_of c.args.side c.args.limit b.list) c.self.view_is) ∙ c.is_met-in-Sell.ensures k.orders.items k.nexts.items shown hidden h
