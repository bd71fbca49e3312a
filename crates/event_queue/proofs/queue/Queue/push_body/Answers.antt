use Rattle.std.proofs.Common.{ℕ, ◌≢◌, ◌∷◌, length, All, sym, ap, ◌∙◌, subst, refl, arith, rules}
use Rattle.std.specs.List.Sorted.{IsPermutation}
use Rattle.market_types.specs.Room.{Room}
use Rattle.market_types.specs.declared.message.Message.{Message}
use Rattle.event_queue.proofs.Slots.{free-within, grown, join_grown, kinds_grown, length_seen}
use Rattle.event_queue.specs.Keys.{Due, all_of}
use Rattle.event_queue.specs.Dues.{held, is_wake, wakes}
use Rattle.event_queue.specs.Numbered.{by_number}
use Rattle.event_queue.specs.Waiting.{joined}
use Rattle.event_queue.proofs.queue.Queue.push_body.Goals as goal

pub keep_free-requires-clause-narrow : goal.keep_free-requires-clause-narrow
keep_free-requires-clause-narrow c = λ none.
    omega (arith, none, c.requires.few, c.self.invariant.every, length_seen c.self.inside.slots.items (all_of c.self.inside.heaps), ap (λ (r : Room Message). length r.list) c.self.view_is)

pub store-slot-requires-clause-within : goal.store-slot-requires-clause-within
store-slot-requires-clause-within c =
    let i = c.self.invariant in
    let k = c.keep_free in
    free-within k.new.slots.items k.new.free.items (all_of c.self.inside.heaps) (grown c.self.inside.slots.items k.new.slots.items c.self.inside.free.items k.new.free.items (all_of c.self.inside.heaps) i.shared_out k.ensures.added)

pub invariant_of-self : goal.invariant_of-self
invariant_of-self c =
    let i = c.self.invariant in
    let k = c.keep_free in
    let v = (all_of c.self.inside.heaps) in
    let w = (all_of c.push.new.self) in
    let new = subst (λ (r : Room Message). All (λ (x : Message). x.seq ≢ c.args.seq) r.list) (sym c.self.view_is) c.requires.fresh in
    let s = c.store-slot.ensures in
    let m : Message = record { time = c.args.time; seq = c.args.seq; from = c.args.from; to = c.args.to; body = c.args.body.now } in
    let d : Due = record { time = c.args.time; seq = c.args.seq; slot = c.store-slot.result } in
    let moved = subst (λ (e : Due). IsPermutation (e ∷ v) w) c.new.ensures c.push.ensures.joins in
    let p = join_grown c.self.inside.slots.items k.new.slots.items c.store-slot.new.slots.items c.self.inside.free.items k.new.free.items c.store-slot.new.free.items v w m d
    i.shared_out i.told i.apart new (refl, refl) k.ensures.same k.ensures.added s.written s.others s.unheld s.taken moved in
    let kept = kinds_grown c.self.inside.slots.items k.new.slots.items c.store-slot.new.slots.items c.self.inside.free.items k.new.free.items c.self.inside.heaps c.store-slot.result
    i.shared_out k.ensures.same k.ensures.added s.others s.unheld i.kinds in
    record {
      slot_room = search rules;
      free_room = search rules;
      few = search rules;
      every = search rules;
      told = p.told;
      shared_out = p.shared_out;
      apart = p.messages.apart;
      narrow = search rules;
      kinds = c.push.ensures.kinds (wakes c.store-slot.new.slots.items) kept (ap (λ (n : ℕ). wakes c.store-slot.new.slots.items n) (ap (λ (e : Due). e.slot) c.new.ensures) ∙ ap (λ (x : Message). is_wake x.body) s.written ∙ sym c.is_wakeup.ensures);
    }

pub returns-clause-joins : goal.returns-clause-joins
returns-clause-joins c =
    let i = c.self.invariant in
    let k = c.keep_free in
    let v = (all_of c.self.inside.heaps) in
    let w = (all_of c.push.new.self) in
    let new = subst (λ (r : Room Message). All (λ (x : Message). x.seq ≢ c.args.seq) r.list) (sym c.self.view_is) c.requires.fresh in
    let s = c.store-slot.ensures in
    let m : Message = record { time = c.args.time; seq = c.args.seq; from = c.args.from; to = c.args.to; body = c.args.body.now } in
    let d : Due = record { time = c.args.time; seq = c.args.seq; slot = c.store-slot.result } in
    let moved = subst (λ (e : Due). IsPermutation (e ∷ v) w) c.new.ensures c.push.ensures.joins in
    let p = join_grown c.self.inside.slots.items k.new.slots.items c.store-slot.new.slots.items c.self.inside.free.items k.new.free.items c.store-slot.new.free.items v w m d
    i.shared_out i.told i.apart new (refl, refl) k.ensures.same k.ensures.added s.written s.others s.unheld s.taken moved in
    let list = joined m (by_number (held c.self.inside.slots.items v)) in
    rw (p.messages.joins, ← c.self.view_is) (ap {B = Room Message} (λ (x : ℕ). record { list = list; spare = x }) c.push.ensures.spare)

pub returns-clause-grows : goal.returns-clause-grows
returns-clause-grows c =
    let v = (all_of c.self.inside.heaps) in
    let w = (all_of c.push.new.self) in
    omega (arith, length_seen c.self.inside.slots.items v, length_seen c.store-slot.new.slots.items w, c.push.ensures.grows, ap (λ (r : Room Message). length r.list) c.self.view_is)
