use Rattle.std.proofs.Common.{◌≡◌, Some, sym, ap, ◌∙◌, rules, option_map}
use Rattle.market_types.specs.Room.{Room}
use Rattle.market_types.specs.declared.message.Message.{Message}
use Rattle.event_queue.specs.Keys.{all_of}
use Rattle.event_queue.specs.Dues.{message_at}
use Rattle.event_queue.specs.Waiting.{least}
use Rattle.event_queue.proofs.Slots.{peeked}
use Rattle.event_queue.proofs.queue.Queue.peek_least.Goals as goal

pub returns-in-Some : goal.returns-in-Some
returns-in-Some c =
    let e = c.in-Some.ensures in
    let i = c.self.invariant in
    let slots = c.self.inside.slots.items in
    let v = (all_of c.self.inside.heaps) in
    let p = peeked slots c.self.inside.free.items v c.in-Some.due.now i.shared_out i.told i.apart e.first in
    let within = p.0 in
    let found : option_map (λ (m : _). m.now) c.get.result ≡ Some (message_at slots c.in-Some.due.now) = search rules in
    found ∙ sym p.1 ∙ ap (λ (r : Room Message). least r.list) c.self.view_is
