use Rattle.std.proofs.Common.{◌≡◌, refl, ℕ, List, Some, length, sym, ap, ◌∙◌, arith, rules}
use Rattle.market_types.specs.Room.{Room}
use Rattle.market_types.specs.declared.message.Message.{Message}
use Rattle.event_queue.specs.Keys.{all_of}
use Rattle.event_queue.specs.Waiting.{least, joined, without}
use Rattle.event_queue.specs.Dues.{held, message_at, wakes}
use Rattle.event_queue.specs.Numbered.{by_number}
use Rattle.event_queue.proofs.Slots.{leave, delay, kinds_delayed, length_seen}
use Rattle.event_queue.proofs.queue.Queue.delay_least.Goals as goal

pub delay-requires : goal.delay-requires
delay-requires c =
    let i = c.self.invariant in
    let v = (all_of c.self.inside.heaps) in
    let t = c.in-Some.ensures.moved in
    let q = leave c.self.inside.slots.items c.self.inside.free.items v t.rest c.in-Some.due i.shared_out i.told i.apart t.split t.first in
    record { within = rw c.slot.ensures q.within }

pub invariant_of-self-2 : goal.invariant_of-self-2
invariant_of-self-2 c =
    let i = c.self.invariant in
    let t = c.in-Some.ensures.moved in
    let r = c.delay.ensures in
    let written = rw c.slot.ensures at r.written in
    let others = rw c.slot.ensures at r.others in
    let slots = c.self.inside.slots.items in
    let free = c.self.inside.free.items in
    let v = (all_of c.self.inside.heaps) in
    let x : Message = message_at slots c.in-Some.due in
    let m : Message = record { time = c.args.time; seq = x.seq; from = x.from; to = x.to; body = x.body } in
    let q = leave slots free v t.rest c.in-Some.due i.shared_out i.told i.apart t.split t.first in
    let p = delay slots c.delay.new.slots.items free v t.rest (all_of c.move_first.new.self) c.in-Some.due m q refl written others r.same t.moved in
    record {
      slot_room = search rules;
      free_room = search rules;
      few = search rules;
      every = search rules;
      told = p.told;
      shared_out = p.shared_out;
      apart = p.apart;
      narrow = search rules;
      kinds = kinds_delayed slots c.delay.new.slots.items c.move_first.new.self c.in-Some.due.slot c.args.time written others (c.move_first.ensures.kinds (wakes slots) i.kinds);
    }

pub returns-clause-delayed : goal.returns-clause-delayed
returns-clause-delayed c =
    let i = c.self.invariant in
    let t = c.in-Some.ensures.moved in
    let r = c.delay.ensures in
    let written = rw c.slot.ensures at r.written in
    let others = rw c.slot.ensures at r.others in
    let slots = c.self.inside.slots.items in
    let free = c.self.inside.free.items in
    let v = (all_of c.self.inside.heaps) in
    let x : Message = message_at slots c.in-Some.due in
    let m : Message = record { time = c.args.time; seq = x.seq; from = x.from; to = x.to; body = x.body } in
    let q = leave slots free v t.rest c.in-Some.due i.shared_out i.told i.apart t.split t.first in
    let p = delay slots c.delay.new.slots.items free v t.rest (all_of c.move_first.new.self) c.in-Some.due m q refl written others r.same t.moved in
    let first : least c.args.self.now.list ≡ Some x = sym (ap (λ (y : Room Message). least y.list) c.self.view_is) ∙ q.messages.first in
    rw first
    (ap {B = Room Message} (λ (y : List Message). record { list = y; spare = c.move_first.new.self.spare }) p.delayed
    ∙ ap {B = Room Message} (λ (n : ℕ). record { list = joined m (without x.seq (by_number (held slots v))); spare = n }) c.move_first.ensures.spare
    ∙ ap {B = Room Message} (λ (y : Room Message). record { list = joined m (without x.seq y.list); spare = y.spare }) c.self.view_is)

pub returns-clause-same : goal.returns-clause-same
returns-clause-same c =
    omega (arith, length_seen c.self.inside.slots.items (all_of c.self.inside.heaps), length_seen c.delay.new.slots.items (all_of c.move_first.new.self), c.move_first.ensures.same, ap (λ (y : Room Message). length y.list) c.self.view_is)

pub returns-clause-empty : goal.returns-clause-empty
returns-clause-empty c =
    let i = c.self.invariant in
    let t = c.in-Some.ensures.moved in
    let r = c.delay.ensures in
    let written = rw c.slot.ensures at r.written in
    let others = rw c.slot.ensures at r.others in
    let slots = c.self.inside.slots.items in
    let free = c.self.inside.free.items in
    let v = (all_of c.self.inside.heaps) in
    let x : Message = message_at slots c.in-Some.due in
    let m : Message = record { time = c.args.time; seq = x.seq; from = x.from; to = x.to; body = x.body } in
    let q = leave slots free v t.rest c.in-Some.due i.shared_out i.told i.apart t.split t.first in
    let first : least c.args.self.now.list ≡ Some x = sym (ap (λ (y : Room Message). least y.list) c.self.view_is) ∙ q.messages.first in
    rw first tt
