use Rattle.std.proofs.Common.{subst}
use Rattle.market_types.specs.Room.{Room}
use Rattle.market_types.specs.declared.message.Message.{Message}
use Rattle.event_queue.specs.Keys.{all_of}
use Rattle.event_queue.specs.Dues.{held}
use Rattle.event_queue.specs.Rising.{IsRising}
use Rattle.event_queue.proofs.Numbers.{rising-by_number}
use Rattle.event_queue.proofs.queue.Queue.numbers_rise.Goals as goal

pub returns : goal.returns
returns c =
    subst (λ (q : Room Message). IsRising q.list) c.self.view_is (rising-by_number (held c.self.inside.slots.items (all_of c.self.inside.heaps)) c.self.invariant.apart)
