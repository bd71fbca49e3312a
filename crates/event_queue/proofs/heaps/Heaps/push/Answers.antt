use Rattle.std.proofs.Common.{◌≡◌, true, false, ◌∷◌, ◌++◌, ◌∙◌, sym, subst}
use Rattle.std.specs.BinaryHeap.{heap_items}
use Rattle.std.specs.List.Sorted.{IsPermutation}
use Rattle.event_queue.specs.Keys.{AreByKind, Due, Keys, all_of}
use Rattle.event_queue.proofs.Keys.{each_permutation, joins_first, joins_last}
use Rattle.event_queue.proofs.heaps.Heaps.push.Goals as goal

pub returns-then-is_wakeup-clause-joins : goal.returns-then-is_wakeup-clause-joins
returns-then-is_wakeup-clause-joins c =
    let x = heap_items c.self.inside.others in
    let w = heap_items c.add.new.heap in
    subst (λ (r : Keys). IsPermutation (c.args.due ∷ (all_of r)) (x ++ w)) c.self.view_is (joins_last c.args.due (heap_items c.self.inside.wakeups) w x c.add.ensures.joins)

pub returns-else-is_wakeup-clause-joins : goal.returns-else-is_wakeup-clause-joins
returns-else-is_wakeup-clause-joins c =
    let x = heap_items c.self.inside.wakeups in
    let w = heap_items c.add-else-is_wakeup.new.heap in
    subst (λ (r : Keys). IsPermutation (c.args.due ∷ (all_of r)) (w ++ x)) c.self.view_is (joins_first c.args.due (heap_items c.self.inside.others) w x c.add-else-is_wakeup.ensures.joins)

pub returns-then-is_wakeup-clause-kinds : goal.returns-then-is_wakeup-clause-kinds
returns-then-is_wakeup-clause-kinds c = λ p a is.
    let b = subst (λ (k : Keys). AreByKind p k) (sym c.self.view_is) a in
    (b.0, each_permutation (λ (d : Due). p d.slot ≡ true) (c.args.due ∷ heap_items c.self.inside.wakeups) (heap_items c.add.new.heap) c.add.ensures.joins (is ∙ c.if-is_wakeup.true, b.1))

pub returns-else-is_wakeup-clause-kinds : goal.returns-else-is_wakeup-clause-kinds
returns-else-is_wakeup-clause-kinds c = λ p a is.
    let b = subst (λ (k : Keys). AreByKind p k) (sym c.self.view_is) a in
    (each_permutation (λ (d : Due). p d.slot ≡ false) (c.args.due ∷ heap_items c.self.inside.others) (heap_items c.add-else-is_wakeup.new.heap) c.add-else-is_wakeup.ensures.joins (is ∙ c.if-is_wakeup.false, b.0), b.1)
