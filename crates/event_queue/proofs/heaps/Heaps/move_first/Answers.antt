use Rattle.std.proofs.Common.{◌++◌, IfSome, subst}
use Rattle.std.specs.BinaryHeap.{heap_items}
use Rattle.event_queue.specs.Keys.{Due, Keys, all_of}
use Rattle.event_queue.specs.Dues.{IsMoved}
use Rattle.event_queue.proofs.Keys.{moved_first, moved_last}
use Rattle.event_queue.proofs.heaps.Heaps.move_first.Goals as goal

pub returns-then-is_ahead-clause-moved : goal.returns-then-is_ahead-clause-moved
returns-then-is_ahead-clause-moved c =
    let e = c.move_top.ensures in
    let x = heap_items c.self.inside.others in
    let u = heap_items c.move_top.new.heap in
    let all = moved_last c.move_top.result (heap_items c.self.inside.wakeups) u x c.args.time e.top e.first e.moved (c.is_ahead.ensures.ahead c.if-is_ahead.true) in
    subst (λ (r : Keys). IfSome c.move_top.result (λ (d : Due). IsMoved (all_of r) (x ++ u) d (record { time = c.args.time; seq = d.seq; slot = d.slot }))) c.self.view_is all

pub returns-else-is_ahead-clause-moved : goal.returns-else-is_ahead-clause-moved
returns-else-is_ahead-clause-moved c =
    let e = c.move_top-else-is_ahead.ensures in
    let x = heap_items c.self.inside.wakeups in
    let u = heap_items c.move_top-else-is_ahead.new.heap in
    let all = moved_first c.move_top-else-is_ahead.result (heap_items c.self.inside.others) u x c.args.time e.top e.first e.moved (c.is_ahead.ensures.behind c.if-is_ahead.false) in
    subst (λ (r : Keys). IfSome c.move_top-else-is_ahead.result (λ (d : Due). IsMoved (all_of r) (u ++ x) d (record { time = c.args.time; seq = d.seq; slot = d.slot }))) c.self.view_is all
