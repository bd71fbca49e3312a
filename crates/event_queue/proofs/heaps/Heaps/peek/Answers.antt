use Rattle.std.proofs.Common.{IfSome, Bor, subst, arith}
use Rattle.std.specs.BinaryHeap.{heap_items}
use Rattle.event_queue.specs.Keys.{Due, Keys, all_of}
use Rattle.event_queue.specs.Dues.{IsFirst}
use Rattle.event_queue.proofs.Keys.{peeked_first, peeked_last}
use Rattle.event_queue.proofs.heaps.Heaps.peek.Goals as goal

pub returns-then-is_ahead-clause-first : goal.returns-then-is_ahead-clause-first
returns-then-is_ahead-clause-first c =
    let e = c.peek.ensures in
    let all = peeked_last c.peek.result (heap_items c.self.inside.wakeups) (heap_items c.self.inside.others) (λ s. omega (arith, e.variant.0 s, c.self.inside.wakeups.«data».ok.0)) e.lookup e.greatest c.self.invariant.wakeups_ordered (c.is_ahead.ensures.ahead c.if-is_ahead.true) in
    subst (λ (r : Keys). IfSome c.peek.result (λ (d : Bor Due). IsFirst (all_of r) d.now)) c.self.view_is all

pub returns-else-is_ahead-clause-first : goal.returns-else-is_ahead-clause-first
returns-else-is_ahead-clause-first c =
    let e = c.peek-else-is_ahead.ensures in
    let all = peeked_first c.peek-else-is_ahead.result (heap_items c.self.inside.others) (heap_items c.self.inside.wakeups) (λ s. omega (arith, e.variant.0 s, c.self.inside.others.«data».ok.0)) e.lookup e.greatest c.self.invariant.ordered (c.is_ahead.ensures.behind c.if-is_ahead.false) in
    subst (λ (r : Keys). IfSome c.peek-else-is_ahead.result (λ (d : Bor Due). IsFirst (all_of r) d.now)) c.self.view_is all
