use Rattle.std.proofs.Common.{sym, subst}
use Rattle.price_time_book.specs.Awaited.{AreAwaited}
use Rattle.price_time_book.proofs.Packs.{awaited}
use Rattle.price_time_book.proofs.book.Book.packed.Goals as goal

pub rest_all-requires-clause-awaited : goal.rest_all-requires-clause-awaited
rest_all-requires-clause-awaited c =
    let k = c.self.inside in
    subst AreAwaited (sym c.as_slice.ensures.value) (awaited k.orders.items k.chains.lasts.items k.chains.befores.items c.self.invariant.chained c.self.invariant.orderly)
