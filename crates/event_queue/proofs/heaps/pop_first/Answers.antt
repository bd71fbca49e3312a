use Rattle.std.proofs.Common.{◌≡◌, true, false}
use Rattle.std.specs.BinaryHeap.{heap_items, heap_len}
use Rattle.event_queue.specs.Keys.{Due}
use Rattle.event_queue.proofs.Keys.{kind_left, leaves_first, leaves_last}
use Rattle.event_queue.proofs.heaps.pop_first.Goals as goal

pub returns-then-is_ahead-clause-left : goal.returns-then-is_ahead-clause-left
returns-then-is_ahead-clause-left c =
    leaves_last c.pop.result (heap_items c.args.wakeups.now) (heap_items c.pop.new.self) (heap_items c.args.others.now) c.pop.ensures.permutation

pub returns-else-is_ahead-clause-left : goal.returns-else-is_ahead-clause-left
returns-else-is_ahead-clause-left c =
    leaves_first c.pop-else-is_ahead.result (heap_items c.args.others.now) (heap_items c.pop-else-is_ahead.new.self) (heap_items c.args.wakeups.now) c.pop-else-is_ahead.ensures.permutation

pub returns-then-is_ahead-clause-kind : goal.returns-then-is_ahead-clause-kind
returns-then-is_ahead-clause-kind c = λ p a.
    kind_left (λ (d : Due). p d.slot ≡ true) (heap_len c.args.wakeups.now) (heap_len c.pop.new.self) c.pop.result (heap_items c.args.wakeups.now) (heap_items c.pop.new.self) c.pop.ensures.permutation c.pop.ensures.unchanged a

pub returns-else-is_ahead-clause-others_kind : goal.returns-else-is_ahead-clause-others_kind
returns-else-is_ahead-clause-others_kind c = λ p a.
    kind_left (λ (d : Due). p d.slot ≡ false) (heap_len c.args.others.now) (heap_len c.pop-else-is_ahead.new.self) c.pop-else-is_ahead.result (heap_items c.args.others.now) (heap_items c.pop-else-is_ahead.new.self) c.pop-else-is_ahead.ensures.permutation c.pop-else-is_ahead.ensures.unchanged a
