use Rattle.std.proofs.Common.{◌≡◌, ℕ, List, ◌∙◌, sym, subst, rules}
use Rattle.std.specs.BinaryHeap.{heap_items}
use Rattle.event_queue.specs.Keys.{AreByKind, Due, Keys}
use Rattle.event_queue.proofs.heaps.Heaps.pop.Goals as goal

abbrev keys_of : List Due → List Due → ℕ → Keys
keys_of v x n = record { others = v; wakeups = x; spare = n }

same_keys : (v w x y : List Due) (n : ℕ) → v ≡ w → x ≡ y → keys_of v x n ≡ keys_of w y n
same_keys v w x y n e f = λ i. record { others = e i; wakeups = f i; spare = n }

pub returns-in_err-due-clause-unchanged : goal.returns-in_err-due-clause-unchanged
returns-in_err-due-clause-unchanged c =
    let e = c.in_err-due.ensures.unchanged in
    let same = same_keys (heap_items c.pop_first.new.others) (heap_items c.self.inside.others) (heap_items c.pop_first.new.wakeups) (heap_items c.self.inside.wakeups) c.self.inside.spare e.0 e.1 ∙ c.self.view_is in
    search rules

pub returns-in_err-due-clause-kinds : goal.returns-in_err-due-clause-kinds
returns-in_err-due-clause-kinds c = λ p a.
    let b = subst (λ (k : Keys). AreByKind p k) (sym c.self.view_is) a in
    (c.pop_first.ensures.others_kind p b.0, c.pop_first.ensures.kind p b.1)

pub returns-clause-kinds : goal.returns-clause-kinds
returns-clause-kinds c = λ p a.
    let b = subst (λ (k : Keys). AreByKind p k) (sym c.self.view_is) a in
    (c.pop_first.ensures.others_kind p b.0, c.pop_first.ensures.kind p b.1)
