use Rattle.std.proofs.Common.{◌≡◌, ◌<◌, ◌+◌, All, List, length, sym, ap, ◌∙◌, get_or, false, arith, rules, subst}
use Rattle.std.specs.List.Sorted.{IsPermutation}
use Rattle.std.specs.Ordering.{is_lt, ordering_then, nat_cmp}
use Rattle.std.proofs.lemmas.Bool.Decides.{nat_tests}
use Rattle.std.proofs.lemmas.List.Sorted.{answers_always, IsPermutation-sym, IsPermutation-trans}
use Rattle.market_types.specs.Room.{Room}
use Rattle.market_types.specs.declared.message.Message.{Message}
use Rattle.event_queue.specs.InOrder.{in_order}
use Rattle.event_queue.specs.Keys.{Due, all_of}
use Rattle.event_queue.specs.Dues.{held}
use Rattle.event_queue.specs.Numbered.{by_number}
use Rattle.event_queue.specs.Waiting.{before}
use Rattle.event_queue.proofs.Listing.{sorted_is_in_order}
use Rattle.event_queue.proofs.Numbers.{permutation-by_number, rising-by_number}
use Rattle.event_queue.proofs.Slots.{held-within}
use Rattle.event_queue.proofs.queue.Queue.messages.Goals as goal

-- no message is due before the one that the pairs of time and number put before it
not_before : (a b : Message) → is_lt (ordering_then (nat_cmp a.time b.time) (nat_cmp a.seq b.seq)) ≡ false → before a b ≡ false
not_before a b h = grind (arith, nat_tests)

pub listed-requires : goal.listed-requires
listed-requires c =
    let slots = c.self.inside.slots.items in
    let v = (all_of c.self.inside.heaps) in
    let within = held-within slots c.self.inside.free.items v c.self.invariant.shared_out in
    subst (λ (s : List Message). All (λ (d : Due). d.slot < length s) v) (sym c.as_slice.ensures.value) within

pub returns-clause-sorted : goal.returns-clause-sorted
returns-clause-sorted c = λ k d low high.
    let v = c.sort_unstable_by_key.new.self.items in
    not_before (get_or v (k + 1) d) (get_or v k d) (c.sort_unstable_by_key.ensures.sorted (λ (m : Message). (m.time, m.seq)) (answers_always _ _ _ (λ f a r g h. search rules)) k d low high)

pub returns-clause-same : goal.returns-clause-same
returns-clause-same c =
    let u = held c.self.inside.slots.items (all_of c.self.inside.heaps) in
    let v = c.sort_unstable_by_key.new.self.items in
    let copied : c.in_ok-messages.messages.items ≡ u = search rules in
    let moved = subst (λ (w : List Message). IsPermutation w v) copied c.sort_unstable_by_key.ensures.permutation in
    let all = IsPermutation-trans (by_number u) u v (IsPermutation-sym u (by_number u) (permutation-by_number u)) moved in
    subst (λ (r : Room Message). IsPermutation r.list v) c.self.view_is all

pub returns-clause-listed : goal.returns-clause-listed
returns-clause-listed c =
    let u = held c.self.inside.slots.items (all_of c.self.inside.heaps) in
    let v = c.sort_unstable_by_key.new.self.items in
    let copied : c.in_ok-messages.messages.items ≡ u = search rules in
    let moved = subst (λ (w : List Message). IsPermutation w v) copied c.sort_unstable_by_key.ensures.permutation in
    let all = IsPermutation-trans (by_number u) u v (IsPermutation-sym u (by_number u) (permutation-by_number u)) moved in
    sorted_is_in_order (by_number u) v (rising-by_number u c.self.invariant.apart) all (returns-clause-sorted c) ∙ ap (λ (r : Room Message). in_order r.list) c.self.view_is
