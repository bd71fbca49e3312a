use Rattle.std.proofs.Common.{List, ap, sym, subst, ◌∙◌}
use Rattle.market_types.specs.declared.order.Side.{Side}
use Rattle.market_types.specs.declared.order.Side.TheVariants.{Buy, Sell}
use Rattle.price_time_book.specs.declared.levels.Level.{Level}
use Rattle.price_time_book.specs.Indexed.{IsIndexed}
use Rattle.price_time_book.specs.Next.{best_at}
use Rattle.price_time_book.specs.Queues.{shown_of}
use Rattle.price_time_book.proofs.book.Book.best.Goals as goal

pub returns-in-Buy : goal.returns-in-Buy
returns-in-Buy c =
    let k = c.self.inside in
    let shown = subst (λ (s : Side). IsIndexed (shown_of s) k.orders.items k.nexts.items c.as_slice.result.now) (sym c.in-Buy.is) (subst (λ (w : List Level). IsIndexed (shown_of Buy) k.orders.items k.nexts.items w) (sym c.as_slice.ensures.value) c.self.invariant.buys) in
    c.best_in.ensures k.orders.items k.nexts.items shown ∙ ap (λ b. best_at c.args.side b.list) c.self.view_is

pub returns-in-Sell : goal.returns-in-Sell
returns-in-Sell c =
    let k = c.self.inside in
    let shown = subst (λ (s : Side). IsIndexed (shown_of s) k.orders.items k.nexts.items c.as_slice-in-Sell.result.now) (sym c.in-Sell.is) (subst (λ (w : List Level). IsIndexed (shown_of Sell) k.orders.items k.nexts.items w) (sym c.as_slice-in-Sell.ensures.value) c.self.invariant.sells) in
    c.best_in-in-Sell.ensures k.orders.items k.nexts.items shown ∙ ap (λ b. best_at c.args.side b.list) c.self.view_is
