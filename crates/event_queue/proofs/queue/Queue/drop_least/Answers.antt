use Rattle.std.proofs.Common.{◌≡◌, ◌∷◌, ◌++◌, [], List, Some, length, sym, ap, ◌∙◌, arith, rules, subst, ℕ}
use Rattle.std.proofs.lemmas.List.Sorted.{length_permutation}
use Rattle.market_types.specs.Room.{Room}
use Rattle.market_types.specs.declared.message.Message.{Message}
use Rattle.event_queue.specs.Keys.{all_of}
use Rattle.event_queue.specs.Waiting.{IsNew, least, without}
use Rattle.event_queue.specs.Dues.{held, wakes, message_at, IsSharedOut}
use Rattle.event_queue.specs.Numbered.{by_number}
use Rattle.event_queue.proofs.Orders.{new-without}
use Rattle.event_queue.proofs.Slots.{leave, length_seen}
use Rattle.event_queue.proofs.queue.Queue.drop_least.Goals as goal

pub invariant_of-self-2 : goal.invariant_of-self-2
invariant_of-self-2 c =
    let e = c.in-Some.ensures in
    let i = c.self.invariant in
    let p = leave c.self.inside.slots.items c.self.inside.free.items (all_of c.self.inside.heaps) (all_of c.pop.new.self) c.in-Some.due i.shared_out i.told i.apart e.left e.first in
    record {
      slot_room = search rules;
      free_room = search rules;
      few = search rules;
      every = search rules;
      told = p.told;
      shared_out = subst (λ (free : List ℕ). IsSharedOut c.self.inside.slots.items free (all_of c.pop.new.self)) (sym c.put.ensures.items) (subst (λ (n : ℕ). IsSharedOut c.self.inside.slots.items (c.self.inside.free.items ++ n ∷ []) (all_of c.pop.new.self)) (sym c.slot.ensures) p.shared_out);
      apart = p.messages.apart;
      narrow = search rules;
      kinds = c.pop.ensures.kinds (wakes c.self.inside.slots.items) i.kinds;
    }

pub returns-clause-left : goal.returns-clause-left
returns-clause-left c =
    let e = c.in-Some.ensures in
    let i = c.self.invariant in
    let slots = c.self.inside.slots.items in
    let v = (all_of c.self.inside.heaps) in
    let m = message_at slots c.in-Some.due in
    let p = leave slots c.self.inside.free.items v (all_of c.pop.new.self) c.in-Some.due i.shared_out i.told i.apart e.left e.first in
    let first : least c.args.self.now.list ≡ Some m = sym (ap (λ (r : Room Message). least r.list) c.self.view_is) ∙ p.messages.first in
    let list = without m.seq (by_number (held slots v)) in
    rw (first, p.messages.left, ← c.self.view_is) (ap {B = Room Message} (λ (x : ℕ). record { list = list; spare = x }) c.in-Some.ensures.spare)

pub returns-clause-gone : goal.returns-clause-gone
returns-clause-gone c =
    let e = c.in-Some.ensures in
    let i = c.self.invariant in
    let slots = c.self.inside.slots.items in
    let v = (all_of c.self.inside.heaps) in
    let m = message_at slots c.in-Some.due in
    let p = leave slots c.self.inside.free.items v (all_of c.pop.new.self) c.in-Some.due i.shared_out i.told i.apart e.left e.first in
    let first : least c.args.self.now.list ≡ Some m = sym (ap (λ (r : Room Message). least r.list) c.self.view_is) ∙ p.messages.first in
    let gone = subst (λ (w : List Message). IsNew m.seq w) (sym p.messages.left) (new-without m.seq (by_number (held slots v))) in
    rw first gone

pub returns-clause-shrinks : goal.returns-clause-shrinks
returns-clause-shrinks c =
    let e = c.in-Some.ensures in
    let i = c.self.invariant in
    let slots = c.self.inside.slots.items in
    let v = (all_of c.self.inside.heaps) in
    let m = message_at slots c.in-Some.due in
    let p = leave slots c.self.inside.free.items v (all_of c.pop.new.self) c.in-Some.due i.shared_out i.told i.apart e.left e.first in
    let first : least c.args.self.now.list ≡ Some m = sym (ap (λ (r : Room Message). least r.list) c.self.view_is) ∙ p.messages.first in
    let w = (all_of c.pop.new.self) in
    rw first (omega (arith, length_seen slots v, length_seen slots w, length_permutation v (c.in-Some.due ∷ w) e.left, ap (λ (r : Room Message). length r.list) c.self.view_is))

pub returns-clause-empty : goal.returns-clause-empty
returns-clause-empty c =
    let e = c.in-Some.ensures in
    let i = c.self.invariant in
    let slots = c.self.inside.slots.items in
    let v = (all_of c.self.inside.heaps) in
    let m = message_at slots c.in-Some.due in
    let p = leave slots c.self.inside.free.items v (all_of c.pop.new.self) c.in-Some.due i.shared_out i.told i.apart e.left e.first in
    let first : least c.args.self.now.list ≡ Some m = sym (ap (λ (r : Room Message). least r.list) c.self.view_is) ∙ p.messages.first in
    rw first tt
