use Rattle.std.proofs.Common.{◌++◌, subst}
use Rattle.std.specs.BinaryHeap.{heap_items}
use Rattle.std.specs.List.Sorted.{IsPermutation}
use Rattle.event_queue.specs.Keys.{Keys, all_of}
use Rattle.event_queue.proofs.Keys.{both_moved}
use Rattle.event_queue.proofs.heaps.Heaps.copy.Goals as goal

pub returns-clause-same : goal.returns-clause-same
returns-clause-same c =
    let others = heap_items c.in_ok-others.others in
    let wakeups = heap_items c.in_ok-wakeups.wakeups in
    subst (λ (r : Keys). IsPermutation (all_of r) (others ++ wakeups)) c.self.view_is (both_moved (heap_items c.self.inside.others) others (heap_items c.self.inside.wakeups) wakeups c.in_ok-others.ensures.same c.in_ok-wakeups.ensures.same)
