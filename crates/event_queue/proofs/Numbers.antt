-- Lemmas on the order of number.
use Rattle.std.proofs.Common.{◌≡◌, ◌≢◌, ℕ, ◌+◌, ◌<◌, ◌≤◌, true, false, cond, ltb, eqb, List, [], ◌∷◌, ◌++◌, Some, length, get_or, refl, sym, ap, ◌∙◌, arith, inl, inr, subst, sum_by, All}
use Rattle.std.specs.List.{AllByRecursion, best_of}
use Rattle.std.specs.List.Sorted.{IsPermutation}
use Rattle.std.proofs.lemmas.Bool.{cases_lt, lt-ltb, le-ltb}
use Rattle.std.proofs.lemmas.Bool.Decides.{nat_tests}
use Rattle.std.proofs.lemmas.List.{get_or_default}
use Rattle.std.proofs.lemmas.List.Elements.{All-from_recursion, recursion_from_All}
use Rattle.std.proofs.lemmas.List.MinMax.{IsFirstBest-from_best_of}
use Rattle.std.proofs.lemmas.List.Recursion.{is_sum_by}
use Rattle.std.proofs.lemmas.List.Sorted.{All-permutation, IsPermutation-sym, IsPermutation-refl, IsPermutation-cons, IsPermutation-to_front, IsPermutation-trans, sum_by-IsPermutation}
use Rattle.market_types.specs.declared.message.Message.{Message}
use Rattle.event_queue.proofs.Orders.{before-order, each-joined, each-weaker, rising-joined, keep_all}
use Rattle.event_queue.proofs.Kept.{best-all}
use Rattle.event_queue.specs.Waiting.{before, least, without, joined}
use Rattle.event_queue.specs.Rising.{IsRising}
use Rattle.event_queue.specs.Numbered.{by_number, count_of, IsApart}

joined-each : (P : Message → Type 0) (m : Message) (w : List Message) → AllByRecursion P (joined m w) → P m × AllByRecursion P w
joined-each P m [] a = a
joined-each P m (x ∷ w) a =
    elim (ltb m.seq x.seq) as (λ b. AllByRecursion P (cond b (m ∷ (x ∷ w)) (x ∷ joined m w)) → P m × (P x × AllByRecursion P w)) [
      | true ↦ λ h. h
      | false ↦ λ h. (let r = joined-each P m w h.1 in (r.0, (h.0, r.1)))
    ] a

-- by_number has the same members
pub each-by_number : (P : Message → Type 0) (w : List Message) → AllByRecursion P w → AllByRecursion P (by_number w)
each-by_number P [] a = tt
each-by_number P (m ∷ w) a = each-joined P m (by_number w) a.0 (each-by_number P w a.1)

pub by_number-each : (P : Message → Type 0) (w : List Message) → AllByRecursion P (by_number w) → AllByRecursion P w
by_number-each P [] a = tt
by_number-each P (m ∷ w) a = let r = joined-each P m (by_number w) a in (r.0, by_number-each P w r.1)

pub length-joined : (m : Message) (w : List Message) → length (joined m w) ≡ length w + 1
length-joined m [] = refl
length-joined m (x ∷ w) = elim (ltb m.seq x.seq) as (λ b. length (cond b (m ∷ (x ∷ w)) (x ∷ joined m w)) ≡ length (x ∷ w) + 1) [ true ↦ omega arith | false ↦ omega (arith, length-joined m w) ]

pub length-by_number : (w : List Message) → length (by_number w) ≡ length w
length-by_number [] = refl
length-by_number (m ∷ w) = omega (arith, length-joined m (by_number w), length-by_number w)

-- what count_of says
none_counted : (n : ℕ) (w : List Message) → count_of n w ≡ 0 → AllByRecursion (λ (x : Message). x.seq ≢ n) w
none_counted n [] e = tt
none_counted n (x ∷ w) e = (other x.seq n (count_of n w) e, none_counted n w (rest x.seq n (count_of n w) e))
  where
    other : (a b k : ℕ) → cond (eqb a b) 1 0 + k ≡ 0 → a ≢ b
    other a b k h = grind (arith, nat_tests)

    rest : (a b k : ℕ) → cond (eqb a b) 1 0 + k ≡ 0 → k ≡ 0
    rest a b k h = omega arith

pub new_counted : (n : ℕ) (w : List Message) → AllByRecursion (λ (x : Message). x.seq ≢ n) w → count_of n w ≡ 0
new_counted n [] a = refl
new_counted n (x ∷ w) a = let t : eqb x.seq n ≡ false = grind (arith, nat_tests, a.0) in rw (t, new_counted n w a.1) refl

pub apart-head : (m : Message) (w : List Message) → IsApart (m ∷ w) → AllByRecursion (λ (x : Message). x.seq ≢ m.seq) w
apart-head m w a = none_counted m.seq w (here m.seq (count_of m.seq w) (a m.seq))
  where
    here : (n k : ℕ) → cond (eqb n n) 1 0 + k ≤ 1 → k ≡ 0
    here n k h = grind (arith, nat_tests)

pub apart-tail : (m : Message) (w : List Message) → IsApart (m ∷ w) → IsApart w
apart-tail m w a = λ n. omega (arith, a n)

pub apart-cons : (m : Message) (w : List Message) → AllByRecursion (λ (x : Message). x.seq ≢ m.seq) w → IsApart w → IsApart (m ∷ w)
apart-cons m w new a = λ n. both m.seq n (count_of n w) (a n) (λ e. ap (λ k. count_of k w) (sym e) ∙ new_counted m.seq w new)
  where
    both : (b n k : ℕ) → k ≤ 1 → (b ≡ n → k ≡ 0) → cond (eqb b n) 1 0 + k ≤ 1
    both b n k h f = grind (arith, nat_tests)

count-sum : (n : ℕ) (w : List Message) → count_of n w ≡ sum_by (λ (m : Message). cond (eqb m.seq n) 1 0) w
count-sum n w = is_sum_by (count_of n) (λ (m : Message). cond (eqb m.seq n) 1 0) refl (λ _ _. refl) w

pub apart-permutation : (v w : List Message) → IsPermutation v w → IsApart v → IsApart w
apart-permutation v w p a = λ n. omega (arith, a n, count-sum n v, count-sum n w, sum_by-IsPermutation (λ (m : Message). cond (eqb m.seq n) 1 0) v w p)

pub rising-by_number : (w : List Message) → IsApart w → IsRising (by_number w)
rising-by_number [] a = tt
rising-by_number (m ∷ w) a = rising-joined m (by_number w) (each-by_number (λ (x : Message). x.seq ≢ m.seq) w (apart-head m w a)) (rising-by_number w (apart-tail m w a))

each_both : (P : Message → Type 0) (a b : ℕ) (u : List Message) → a ≤ b → AllByRecursion (λ (m : Message). a < m.seq → P m) u → AllByRecursion (λ (m : Message). b < m.seq) u → AllByRecursion P u
each_both P a b [] h f r = tt
each_both P a b (m ∷ u) h f r = (f.0 (omega (arith, r.0)), each_both P a b u h f.1 r.1)

-- two rising lists with the same members are one
pub same_rising : (v w : List Message) → IsRising v → IsRising w → ((P : Message → Type 0) → AllByRecursion P v → AllByRecursion P w) → ((P : Message → Type 0) → AllByRecursion P w → AllByRecursion P v) → v ≡ w
same_rising [] [] r s f g = refl
same_rising [] (y ∷ w) r s f g = absurd (f (λ _. ⊥) tt).0
same_rising (x ∷ v) [] r s f g = absurd (g (λ _. ⊥) tt).0
same_rising (x ∷ v) (y ∷ w) r s f g =
    let low : x.seq ≤ y.seq = (f (λ (m : Message). x.seq ≤ m.seq) (omega arith, each-weaker (λ (m : Message). x.seq < m.seq) (λ (m : Message). x.seq ≤ m.seq) (λ m h. omega arith) v r.0)).0 in
    let high : y.seq ≤ x.seq = (g (λ (m : Message). y.seq ≤ m.seq) (omega arith, each-weaker (λ (m : Message). y.seq < m.seq) (λ (m : Message). y.seq ≤ m.seq) (λ m h. omega arith) w s.0)).0 in
    let same : x ≡ y = (f (λ (m : Message). m.seq ≡ x.seq → x ≡ m) ((λ _. refl), each-weaker (λ (m : Message). x.seq < m.seq) (λ (m : Message). m.seq ≡ x.seq → x ≡ m) (λ m h e. absurd (omega arith)) v r.0)).0 (omega arith) in
    let right : (P : Message → Type 0) → AllByRecursion P v → AllByRecursion P w = λ P a.
    each_both P x.seq y.seq w low (f (λ (m : Message). x.seq < m.seq → P m) ((λ h. absurd (omega arith)), each-weaker P (λ (m : Message). x.seq < m.seq → P m) (λ m p _. p) v a)).1 s.0 in
    let left : (P : Message → Type 0) → AllByRecursion P w → AllByRecursion P v = λ P a.
    each_both P y.seq x.seq v high (g (λ (m : Message). y.seq < m.seq → P m) ((λ h. absurd (omega arith)), each-weaker P (λ (m : Message). y.seq < m.seq → P m) (λ m p _. p) w a)).1 r.0 in
    let rest = same_rising v w r.1 s.1 right left in
    λ i. same i ∷ rest i

-- the order of number forgets the order in the heap
pub by_number-permutation : (v w : List Message) → IsPermutation v w → IsApart v → by_number v ≡ by_number w
by_number-permutation v w p a =
    same_rising (by_number v) (by_number w) (rising-by_number v a) (rising-by_number w (apart-permutation v w p a))
    (λ P h. each-by_number P w (recursion_from_All P w (All-permutation P v w p (All-from_recursion P v (by_number-each P v h)))))
    (λ P h. each-by_number P v (recursion_from_All P v (All-permutation P w v (IsPermutation-sym v w p) (All-from_recursion P w (by_number-each P w h)))))

-- what joined leaves again
pub without-joined : (m : Message) (w : List Message) → AllByRecursion (λ (x : Message). x.seq ≢ m.seq) w → without m.seq (joined m w) ≡ w
without-joined m [] a = let e : eqb m.seq m.seq ≡ true = grind (arith, nat_tests) in rw e refl
without-joined m (x ∷ w) a =
    let here : eqb m.seq m.seq ≡ true = grind (arith, nat_tests) in
    let other : eqb x.seq m.seq ≡ false = grind (arith, nat_tests, a.0) in
    elim (cases_lt m.seq x.seq) [
      | inl h ↦ rw (lt-ltb m.seq x.seq h) (rw (here, other) (ap (λ r. x ∷ r) (keep_all m.seq w a.1)))
      | inr h ↦ rw (le-ltb m.seq x.seq h) (rw other (ap (λ r. x ∷ r) (without-joined m w a.1)))
    ]

pub best_first : (a : Message) (w : List Message) → AllByRecursion (λ (x : Message). before x (best_of before a w) ≡ false) (a ∷ w)
best_first a w =
    let i = IsFirstBest-from_best_of before-order a w in
    recursion_from_All (λ (x : Message). before x (best_of before a w) ≡ false) (a ∷ w)
    (λ k d h. subst (λ (z : Message). before (get_or (a ∷ w) k d) z ≡ false) (get_or_default (a ∷ w) i.0 d a i.1.0 ∙ i.2) (i.1.1 k d h))

same_seq : (a b : Message) → before a b ≡ false → before b a ≡ false → a.seq ≡ b.seq
same_seq a b h k = grind (arith, nat_tests)

-- a member that none comes before is the least
pub least_unique : (w : List Message) (m : Message) → AllByRecursion (λ (x : Message). before x m ≡ false) w → ((P : Message → Type 0) → AllByRecursion P w → P m) → AllByRecursion (λ (x : Message). x.seq ≡ m.seq → x ≡ m) w → least w ≡ Some m
least_unique [] m bound member distinct = absurd (member (λ _. ⊥) tt)
least_unique (a ∷ u) m bound member distinct =
    let b = best_of before a u in
    let first : before b m ≡ false = best-all (λ (x : Message). before x m ≡ false) a u bound.0 bound.1 in
    let second : before m b ≡ false = member (λ (x : Message). before x b ≡ false) (best_first a u) in
    let same : b ≡ m = best-all (λ (x : Message). x.seq ≡ m.seq → x ≡ m) a u distinct.0 distinct.1 (same_seq b m first second) in
    ap (λ (x : Message). Some x) same

least-joined : (m : Message) (v : List Message) → AllByRecursion (λ (x : Message). x.seq ≢ m.seq) v → AllByRecursion (λ (x : Message). before x m ≡ false) v → least (joined m v) ≡ Some m
least-joined m v new bound =
    let itself : before m m ≡ false = grind (arith, nat_tests) in
    least_unique (joined m v) m
    (each-joined (λ (x : Message). before x m ≡ false) m v itself bound)
    (λ P a. (joined-each P m v a).0)
    (each-joined (λ (x : Message). x.seq ≡ m.seq → x ≡ m) m v (λ _. refl) (each-weaker (λ (x : Message). x.seq ≢ m.seq) (λ (x : Message). x.seq ≡ m.seq → x ≡ m) (λ x n e. absurd (n e)) v new))

-- what a push leaves
pub record IsPushed (v w : List Message) (m : Message) : Type 0 where
  pub apart : IsApart w
  pub joins : by_number w ≡ joined m (by_number v)

pub pushed : (v w : List Message) (m : Message) → IsPermutation (m ∷ v) w → All (λ (x : Message). x.seq ≢ m.seq) (by_number v) → IsApart v → IsPushed v w m
pushed v w m p new a =
    let new' = by_number-each (λ (x : Message). x.seq ≢ m.seq) v (recursion_from_All (λ (x : Message). x.seq ≢ m.seq) (by_number v) new) in
    let both = apart-cons m v new' a in
    record {
      apart = apart-permutation (m ∷ v) w p both;
      joins = sym (by_number-permutation (m ∷ v) w p both);
    }

-- what a pop leaves
pub record IsPopped (v w : List Message) (m : Message) : Type 0 where
  pub apart : IsApart w
  pub first : least (by_number v) ≡ Some m
  pub left : by_number w ≡ without m.seq (by_number v)

pub popped : (v w : List Message) (m : Message) → IsPermutation v (m ∷ w) → AllByRecursion (λ (x : Message). before x m ≡ false) w → IsApart v → IsPopped v w m
popped v w m p top a =
    let both = apart-permutation v (m ∷ w) p a in
    let is = by_number-permutation v (m ∷ w) p a in
    let new = each-by_number (λ (x : Message). x.seq ≢ m.seq) w (apart-head m w both) in
    let bound = each-by_number (λ (x : Message). before x m ≡ false) w top in
    record {
      apart = apart-tail m w both;
      first = ap least is ∙ least-joined m (by_number w) new bound;
      left = sym (ap (without m.seq) is ∙ without-joined m (by_number w) new);
    }

-- the order of number has the messages of the list
permutation-joined : (m : Message) (w : List Message) → IsPermutation (m ∷ w) (joined m w)
permutation-joined m [] = IsPermutation-refl (m ∷ [])
permutation-joined m (x ∷ w) = elim (ltb m.seq x.seq) as (λ b. IsPermutation (m ∷ (x ∷ w)) (cond b (m ∷ (x ∷ w)) (x ∷ joined m w))) [
  | true ↦ IsPermutation-refl (m ∷ (x ∷ w))
  | false ↦ IsPermutation-trans (m ∷ (x ∷ w)) (x ∷ (m ∷ w)) (x ∷ joined m w) (two m x w) (IsPermutation-cons x (m ∷ w) (joined m w) (permutation-joined m w))
]
  where
    two : (a b : Message) (v : List Message) → IsPermutation (a ∷ (b ∷ v)) (b ∷ (a ∷ v))
    two a b v = IsPermutation-trans (a ∷ (b ∷ v)) ((b ∷ v) ++ a ∷ []) (b ∷ (a ∷ v)) (IsPermutation-sym ((b ∷ v) ++ a ∷ []) (a ∷ (b ∷ v)) (IsPermutation-to_front (b ∷ v) a)) (IsPermutation-cons b (v ++ a ∷ []) (a ∷ v) (IsPermutation-to_front v a))

pub permutation-by_number : (w : List Message) → IsPermutation w (by_number w)
permutation-by_number [] = IsPermutation-refl []
permutation-by_number (m ∷ w) = IsPermutation-trans (m ∷ w) (m ∷ by_number w) (joined m (by_number w)) (IsPermutation-cons m w (by_number w) (permutation-by_number w)) (permutation-joined m (by_number w))
