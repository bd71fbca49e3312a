use Rattle.std.proofs.Common.{◌≡◌, ◌<◌, true, false, length, arith, refl, rules, ap, sym, ◌∙◌}
use Rattle.std.specs.Ordering.{is_lt}
use Rattle.std.specs.BinaryHeap.{heap_items}
use Rattle.event_queue.specs.Keys.{Due, by_due}
use Rattle.std.proofs.lemmas.Bool.Decides.{nat_tests}
use Rattle.event_queue.proofs.Keys.{ahead}
use Rattle.event_queue.proofs.heaps.is_ahead.Goals as goal

pub returns-in-Less-clause-behind : goal.returns-in-Less-clause-behind
returns-in-Less-clause-behind c = λ _.
    let v = heap_items c.args.heap.now in
    let w = heap_items c.args.other.now in
    let some : 0 < length w = omega (arith, c.in-Some.ensures.variant.0 refl, c.args.other.now.«data».ok.0) in
    let less : is_lt (by_due c.in-Some-peek.first.now c.in-Some.second.now) ≡ true = ap is_lt (sym c.cmp.ensures ∙ c.in-Less.is) in
    ahead w v c.in-Some.second.now c.in-Some-peek.first.now some c.in-Some.ensures.lookup (c.in-Some-peek.ensures.greatest c.requires.order) (one_way c.in-Some-peek.first.now c.in-Some.second.now less)
  where
    one_way : (a b : Due) → is_lt (by_due a b) ≡ true → is_lt (by_due b a) ≡ false
    one_way a b h = grind (arith, nat_tests)

pub returns-in-Equal : goal.returns-in-Equal
returns-in-Equal c =
    let v = heap_items c.args.heap.now in
    let w = heap_items c.args.other.now in
    let some : 0 < length v = omega (arith, c.in-Some-peek.ensures.variant.0 refl, c.args.heap.now.«data».ok.0) in
    let not_less : is_lt (by_due c.in-Some-peek.first.now c.in-Some.second.now) ≡ false = search rules in
    record {
      ahead = λ _. ahead v w c.in-Some-peek.first.now c.in-Some.second.now some c.in-Some-peek.ensures.lookup (c.in-Some.ensures.greatest c.requires.other_order) not_less;
      behind = λ e. cc;
    }
