use Rattle.std.proofs.Common.{◌≡◌, List, ap, subst, rules}
use Rattle.market_types.specs.Room.{Room}
use Rattle.market_types.specs.declared.message.Message.{Message}
use Rattle.event_queue.specs.Keys.{AreByKind, all_of}
use Rattle.event_queue.specs.Dues.{wakes}
use Rattle.event_queue.proofs.Slots.{copied}
use Rattle.event_queue.proofs.queue.Queue.copy.Goals as goal

pub invariant_of-result : goal.invariant_of-result
invariant_of-result c =
    let i = c.self.invariant in
    let v = (all_of c.self.inside.heaps) in
    let w = c.in_ok-heaps.heaps in
    let slots = c.self.inside.slots.items in
    let free = c.self.inside.free.items in
    let same_slots : slots ≡ c.in-Ok.slots.items = search rules in
    let same_free : free ≡ c.reserve.new.self.items = search rules in
    let p = copied slots free v (all_of w) i.shared_out i.told i.apart c.in_ok-heaps.ensures.same in
    record {
      slot_room = search rules;
      free_room = search rules;
      few = search rules;
      every = search rules;
      told = search rules;
      shared_out = search rules;
      apart = search rules;
      narrow = search rules;
      kinds = subst (λ (s : List Message). AreByKind (wakes s) w) same_slots (c.in_ok-heaps.ensures.kinds (wakes slots) i.kinds);
    }

pub returns : goal.returns
returns c =
    let i = c.self.invariant in
    let v = (all_of c.self.inside.heaps) in
    let w = c.in_ok-heaps.heaps in
    let slots = c.self.inside.slots.items in
    let free = c.self.inside.free.items in
    let same_slots : c.in-Ok.slots.items ≡ slots = search rules in
    let p = copied slots free v (all_of w) i.shared_out i.told i.apart c.in_ok-heaps.ensures.same in
    rw (same_slots, p.same) (ap (λ (r : Room _). r.list) c.self.view_is)
