use Rattle.std.proofs.Common.{◌≤◌, List, All, length, arith, subst, sym}
use Rattle.exchange_agent.specs.declared.listing.Listing.{Listing}
use Rattle.exchange_agent.proofs.Numbers.{few-each}
use Rattle.exchange_agent.proofs.exchange.Exchange.verdict_there.Goals as goal

pub resting-requires-clause-each : goal.resting-requires-clause-each
resting-requires-clause-each c =
    let i = c.self.inside in
    subst (λ (xs : List Listing). All (λ (k : Listing). length k.book.list ≤ 131072) xs) (sym c.as_slice.ensures.value)
    (few-each (length i.cash.items) i.counts.orders i.pairs.keys i.stocks.items (omega (arith, c.self.invariant.orders, c.self.invariant.pairs)) c.self.invariant.stocks)
