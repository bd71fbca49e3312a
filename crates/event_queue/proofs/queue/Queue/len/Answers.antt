use Rattle.std.proofs.Common.{length, ap, arith}
use Rattle.market_types.specs.Room.{Room}
use Rattle.market_types.specs.declared.message.Message.{Message}
use Rattle.event_queue.specs.Keys.{all_of}
use Rattle.event_queue.proofs.Slots.{length_seen}
use Rattle.event_queue.proofs.queue.Queue.len.Goals as goal

pub returns : goal.returns
returns c =
    let v = (all_of c.self.inside.heaps) in
    omega (arith, c.len.ensures, length_seen c.self.inside.slots.items v, ap (λ (r : Room Message). length r.list) c.self.view_is)
