-- Lemmas on sorted indexes of the vector of arrival.
use Rattle.std.proofs.Common.{◌≡◌, ◌≢◌, ℕ, ◌+◌, ◌-◌, ◌<◌, ◌≤◌, Bool, true, false, cond, eqb, ltb, List, [], ◌∷◌, ◌++◌, Some, None, length, get_or, set, refl, sym, ap, ◌∙◌, arith, inl, inr, suc, zero, subst, All, find}
use Rattle.std.specs.Cmp.{IsTotalOrder}
use Rattle.std.proofs.lemmas.Cmp.{nat_cmp_total}
use Rattle.std.specs.List.{insert}
use Rattle.std.specs.List.Sorted.{IsPartitionPoint}
use Rattle.std.specs.Ordering.{is_lt, nat_cmp, ordering_reverse}
use Rattle.std.specs.declared.cmp.Ordering.{Ordering}
use Rattle.std.specs.declared.cmp.Ordering.TheVariants.{Less, Equal, Greater}
use Rattle.std.proofs.lemmas.Bool.Decides.{nat_tests}
use Rattle.std.proofs.lemmas.Bool.{cases_Bool, cases_eq, cases_lt, eq-eqb, ne_eqb}
use Rattle.std.proofs.lemmas.List.{length-set, length_push, get_or_append_left, get_or_push, get_or-set_same, get_or-set_other}
use Rattle.std.proofs.lemmas.List.Edits.{length-insert, get_or-insert_below, get_or-insert_at, get_or-insert_above}
use Rattle.price_time_book.specs.declared.resting.Resting.{Resting}
use Rattle.price_time_book.specs.declared.index.ReferenceEntry.{ReferenceEntry}
use Rattle.price_time_book.specs.Index.{AreLessened, IsByReference, IsIndex, IsLessened}
use Rattle.price_time_book.specs.Indexed.{nothing, open_orders}
use Rattle.price_time_book.proofs.Lowers.{open_each}
use Rattle.std.proofs.lemmas.List.Elements.{recursion_from_All}

-- ---- keys
less_apart : (o : Ordering) → o ≡ Less → o ≡ Equal → ⊥
less_apart o e f = cc

greater_apart : (o : Ordering) → o ≡ Greater → o ≡ Equal → ⊥
greater_apart o e f = cc

turned_less : {K : Type 0} (cmp : K → K → Ordering) → IsTotalOrder cmp → (x y : K) → cmp x y ≡ Less → cmp y x ≡ Greater
turned_less cmp t x y e = t.antisymm y x ∙ ap ordering_reverse e

turned_greater : {K : Type 0} (cmp : K → K → Ordering) → IsTotalOrder cmp → (x y : K) → cmp x y ≡ Greater → cmp y x ≡ Less
turned_greater cmp t x y e = t.antisymm y x ∙ ap ordering_reverse e

turned_equal : {K : Type 0} (cmp : K → K → Ordering) → IsTotalOrder cmp → (x y : K) → cmp x y ≡ Equal → cmp y x ≡ Equal
turned_equal cmp t x y e = t.antisymm y x ∙ ap ordering_reverse e

-- two keys that tie with a third tie
both_equal : {K : Type 0} (cmp : K → K → Ordering) → IsTotalOrder cmp → (x y z : K) → cmp x z ≡ Equal → cmp y z ≡ Equal → cmp x y ≡ Equal
both_equal cmp t x y z e f = t.congr x z y e ∙ turned_equal cmp t y z f

-- ---- entries
-- two entries with keys that tie are one
one_entry : {E K : Type 0} (key : E → K) (place : E → ℕ) (cmp : K → K → Ordering) (of : Resting → K) → IsTotalOrder cmp → (os : List Resting) (es : List E) → IsIndex key place cmp of os es → (i j : ℕ) (d : E) → i < length es → j < length es → cmp (key (get_or es i d)) (key (get_or es j d)) ≡ Equal → i ≡ j
one_entry key place cmp of t os es x i j d a b e = elim (cases_lt i j) [
  | inl h ↦ absurd (less_apart (cmp (key (get_or es i d)) (key (get_or es j d))) (x.rising i j d h b) e)
  | inr h ↦ elim (cases_eq i j) [
    | inl s ↦ s
    | inr n ↦
        let less : j < i = omega arith in
        absurd (greater_apart (cmp (key (get_or es i d)) (key (get_or es j d))) (turned_less cmp t (key (get_or es j d)) (key (get_or es i d)) (x.rising j i d less a)) e)
  ]
]

-- the entry of an open order has its key
entry_key : {E K : Type 0} (key : E → K) (place : E → ℕ) (cmp : K → K → Ordering) (of : Resting → K) (os : List Resting) (es : List E) → IsIndex key place cmp of os es → (i k : ℕ) (d : E) → i < length es → place (get_or es i d) ≡ k → key (get_or es i d) ≡ of (get_or os k nothing)
entry_key key place cmp of os es x i k d a e = sym (x.right i d a).1 ∙ ap (λ j. of (get_or os j nothing)) e

-- an open order whose key ties with that of an entry stands at its place
pub only_place : {E K : Type 0} (key : E → K) (place : E → ℕ) (cmp : K → K → Ordering) (of : Resting → K) → IsTotalOrder cmp → (os : List Resting) (es : List E) → IsIndex key place cmp of os es → (at : ℕ) (d : E) (q : K) → at < length es → cmp (key (get_or es at d)) q ≡ Equal → (k : ℕ) → k < length os → 0 < (get_or os k nothing).left → cmp (of (get_or os k nothing)) q ≡ Equal → k ≡ place (get_or es at d)
only_place key place cmp of t os es x at d q a e k w l f =
    let c = x.covered k w l in
    let same : key (get_or es c.0 d) ≡ of (get_or os k nothing) = entry_key key place cmp of os es x c.0 k d c.1 (c.2 d) in
    let tie : cmp (key (get_or es c.0 d)) q ≡ Equal = ap (λ z. cmp z q) same ∙ f in
    let one : c.0 ≡ at = one_entry key place cmp of t os es x c.0 at d c.1 a (both_equal cmp t (key (get_or es c.0 d)) (key (get_or es at d)) q tie e) in
    sym (c.2 d) ∙ ap (λ i. place (get_or es i d)) one

-- where no entry ties no open order does
pub no_place : {E K : Type 0} (key : E → K) (place : E → ℕ) (cmp : K → K → Ordering) (of : Resting → K) (os : List Resting) (es : List E) → IsIndex key place cmp of os es → (d : E) (q : K) → ((i : ℕ) → i < length es → cmp (key (get_or es i d)) q ≢ Equal) → (k : ℕ) → k < length os → 0 < (get_or os k nothing).left → cmp (of (get_or os k nothing)) q ≢ Equal
no_place key place cmp of os es x d q none k w l f =
    let c = x.covered k w l in
    none c.0 c.1 (ap (λ z. cmp z q) (entry_key key place cmp of os es x c.0 k d c.1 (c.2 d)) ∙ f)

-- what a search by halving gives: the entries before a place are less than a key, the one there is not
pub record IsFrom {E K : Type 0} (key : E → K) (cmp : K → K → Ordering) (es : List E) (q : K) (at : ℕ) : Type 0 where
  pub within : at ≤ length es
  pub below : (d : E) → 0 < at → is_lt (cmp (key (get_or es (at - 1) d)) q) ≡ true
  pub above : (d : E) → at < length es → is_lt (cmp (key (get_or es at d)) q) ≡ false

lt_is : (o : Ordering) → is_lt o ≡ true → o ≡ Less
lt_is Less e = refl
lt_is Equal e = absurd (cc e)
lt_is Greater e = absurd (cc e)

not_less : (o : Ordering) → is_lt o ≡ false → o ≡ Less → ⊥
not_less Less e f = absurd (cc e)
not_less Equal e f = absurd (cc f)
not_less Greater e f = absurd (cc f)

neither : (o : Ordering) → (o ≡ Less → ⊥) → (o ≡ Equal → ⊥) → o ≡ Greater
neither Less a b = absurd (a refl)
neither Equal a b = absurd (b refl)
neither Greater a b = refl

all_before : {E K : Type 0} (key : E → K) (place : E → ℕ) (cmp : K → K → Ordering) (of : Resting → K) → IsTotalOrder cmp → (os : List Resting) (es : List E) → IsIndex key place cmp of os es → (q : K) (at : ℕ) → IsFrom key cmp es q at → (i : ℕ) (d : E) → i < at → cmp (key (get_or es i d)) q ≡ Less
all_before key place cmp of t os es x q at f i d h =
    let last : cmp (key (get_or es (at - 1) d)) q ≡ Less = lt_is (cmp (key (get_or es (at - 1) d)) q) (f.below d (omega arith)) in
    elim (cases_eq i (at - 1)) [
      | inl s ↦ ap (λ k. cmp (key (get_or es k d)) q) s ∙ last
      | inr n ↦ t.trans (key (get_or es i d)) (key (get_or es (at - 1) d)) q (x.rising i (at - 1) d (omega arith) (omega (arith, f.within))) last
    ]

all_after : {E K : Type 0} (key : E → K) (place : E → ℕ) (cmp : K → K → Ordering) (of : Resting → K) → IsTotalOrder cmp → (os : List Resting) (es : List E) → IsIndex key place cmp of os es → (q : K) (at : ℕ) → IsFrom key cmp es q at → (i : ℕ) (d : E) → at ≤ i → i < length es → cmp (key (get_or es i d)) q ≡ Less → ⊥
all_after key place cmp of t os es x q at f i d h w e =
    let here = f.above d (omega arith) in
    elim (cases_eq i at) [
      | inl s ↦ not_less (cmp (key (get_or es at d)) q) here (ap (λ k. cmp (key (get_or es k d)) q) (sym s) ∙ e)
      | inr n ↦ not_less (cmp (key (get_or es at d)) q) here (t.trans (key (get_or es at d)) (key (get_or es i d)) q (x.rising at i d (omega arith) w) e)
    ]

-- where the entry at the place does not tie none does
pub none_ties : {E K : Type 0} (key : E → K) (place : E → ℕ) (cmp : K → K → Ordering) (of : Resting → K) → IsTotalOrder cmp → (os : List Resting) (es : List E) → IsIndex key place cmp of os es → (q : K) (at : ℕ) → IsFrom key cmp es q at → ((d : E) → at < length es → cmp (key (get_or es at d)) q ≢ Equal) → (i : ℕ) (d : E) → i < length es → cmp (key (get_or es i d)) q ≢ Equal
none_ties key place cmp of t os es x q at f free i d h e = elim (cases_lt i at) [
  | inl a ↦ less_apart (cmp (key (get_or es i d)) q) (all_before key place cmp of t os es x q at f i d a) e
  | inr a ↦ elim (cases_eq i at) [
    | inl s ↦ free d (omega arith) (ap (λ k. cmp (key (get_or es k d)) q) (sym s) ∙ e)
    | inr n ↦
        let more : cmp (key (get_or es i d)) (key (get_or es at d)) ≡ Greater = turned_less cmp t (key (get_or es at d)) (key (get_or es i d)) (x.rising at i d (omega arith) h) in
        let back : cmp q (key (get_or es at d)) ≡ Greater = sym (t.congr (key (get_or es i d)) q (key (get_or es at d)) e) ∙ more in
        all_after key place cmp of t os es x q at f at d (omega arith) (omega arith) (turned_greater cmp t q (key (get_or es at d)) back)
  ]
]

pub parted : {E K : Type 0} (key : E → K) (place : E → ℕ) (cmp : K → K → Ordering) (of : Resting → K) → IsTotalOrder cmp → (os : List Resting) (es : List E) → IsIndex key place cmp of os es → (q : K) (at : ℕ) → IsFrom key cmp es q at → ((d : E) → at < length es → cmp (key (get_or es at d)) q ≢ Equal) → IsPartitionPoint (λ (y : E). cmp (key y) q ≡ Less) (λ (y : E). cmp (key y) q ≡ Greater) es at
parted key place cmp of t os es x q at f free = (λ k d a b. all_before key place cmp of t os es x q at f k d b, λ k d a b. neither (cmp (key (get_or es k d)) q) (all_after key place cmp of t os es x q at f k d a b) (none_ties key place cmp of t os es x q at f free k d b))

-- ---- a search of the open orders
pub find_only : (q : Resting → Bool) (os : List Resting) (p : ℕ) → p < length os → 0 < (get_or os p nothing).left → q (get_or os p nothing) ≡ true → ((k : ℕ) → k < length os → 0 < (get_or os k nothing).left → q (get_or os k nothing) ≡ true → k ≡ p) → find q (open_orders os) ≡ Some (get_or os p nothing)
find_only q [] p w l h u = absurd (omega arith)
find_only q (o ∷ os) zero w l h u = let t : eqb o.left 0 ≡ false = ne_eqb o.left 0 (omega (arith, l)) in rw t (rw h refl)
find_only q (o ∷ os) (suc p) w l h u =
    let rest = find_only q os p (omega arith) l h (λ k a b e. (let s = u (suc k) (omega arith) b e in omega (arith, s))) in
    elim (cases_eq o.left 0) [
      | inl z ↦ (let t : eqb o.left 0 ≡ true = eq-eqb o.left 0 z in rw t rest)
      | inr z ↦ (let t : eqb o.left 0 ≡ false = ne_eqb o.left 0 z in rw t (elim (cases_Bool (q o)) [
        | inl passes ↦ absurd (let s = u zero (omega arith) (omega (arith, z)) passes in omega (arith, s))
        | inr fails ↦ rw fails rest
      ]))
    ]

pub find_nobody : (q : Resting → Bool) (os : List Resting) → ((k : ℕ) → k < length os → 0 < (get_or os k nothing).left → q (get_or os k nothing) ≡ true → ⊥) → find q (open_orders os) ≡ None
find_nobody q [] u = refl
find_nobody q (o ∷ os) u =
    let rest = find_nobody q os (λ k a b e. u (suc k) (omega arith) b e) in
    elim (cases_eq o.left 0) [
      | inl z ↦ (let t : eqb o.left 0 ≡ true = eq-eqb o.left 0 z in rw t rest)
      | inr z ↦ (let t : eqb o.left 0 ≡ false = ne_eqb o.left 0 z in rw t (elim (cases_Bool (q o)) [
        | inl passes ↦ absurd (u zero (omega arith) (omega (arith, z)) passes)
        | inr fails ↦ rw fails rest
      ]))
    ]

-- ---- an entry joins, where none has its key
data Spot {E : Type 0} (es : List E) (at : ℕ) (e : E) (i : ℕ) (d : E) : Type 0 where
  before : i < at → get_or (insert es at e) i d ≡ get_or es i d → Spot es at e i d
  here : i ≡ at → get_or (insert es at e) i d ≡ e → Spot es at e i d
  after : (k : ℕ) → i ≡ k + 1 → at ≤ k → k < length es → get_or (insert es at e) i d ≡ get_or es k d → Spot es at e i d

spot : {E : Type 0} (es : List E) (at : ℕ) (e : E) (i : ℕ) (d : E) → at ≤ length es → i < length (insert es at e) → Spot es at e i d
spot es at e i d le h = elim (cases_lt i at) [
  | inl a ↦ before a (get_or-insert_below es at e d i a le)
  | inr a ↦ elim (cases_eq i at) [
    | inl s ↦ here s (ap (λ k. get_or (insert es at e) k d) s ∙ get_or-insert_at es at e d le)
    | inr n ↦
        let long = length-insert es at e le in
        let k = i - 1 in
        let more : k + 1 ≡ i = omega arith in
        after k (sym more) (omega arith) (omega (arith, long)) (ap (λ j. get_or (insert es at e) j d) (sym more) ∙ get_or-insert_above es at e d k (omega arith) le)
  ]
]

pub index_insert : {E K : Type 0} (key : E → K) (place : E → ℕ) (cmp : K → K → Ordering) (of : Resting → K) → IsTotalOrder cmp → (os : List Resting) (es : List E) (x : Resting) (e : E) (at : ℕ) → IsIndex key place cmp of os es → key e ≡ of x → place e ≡ length os → at ≤ length es → IsPartitionPoint (λ (y : E). cmp (key y) (of x) ≡ Less) (λ (y : E). cmp (key y) (of x) ≡ Greater) es at → IsIndex key place cmp of (os ++ x ∷ []) (insert es at e)
index_insert {E} {K} key place cmp of t os es x e at h keyed placed le p = record { rising = rising; right = right; covered = covered }
  where
    es' : List E
    es' = insert es at e

    less : (i : ℕ) (d : E) → i < at → cmp (key (get_or es i d)) (key e) ≡ Less
    less i d a = ap (cmp (key (get_or es i d))) keyed ∙ p.0 i d (omega arith) a

    more : (k : ℕ) (d : E) → at ≤ k → k < length es → cmp (key e) (key (get_or es k d)) ≡ Less
    more k d a b = ap (λ z. cmp z (key (get_or es k d))) keyed ∙ turned_greater cmp t (key (get_or es k d)) (of x) (p.1 k d a b)

    both : (i j : ℕ) (d : E) (y z : E) → get_or (insert es at e) i d ≡ y → get_or (insert es at e) j d ≡ z → cmp (key y) (key z) ≡ Less → cmp (key (get_or (insert es at e) i d)) (key (get_or (insert es at e) j d)) ≡ Less
    both i j d y z a b c = ap (λ u. cmp (key u) (key (get_or (insert es at e) j d))) a ∙ ap (λ u. cmp (key y) (key u)) b ∙ c

    rising : (i j : ℕ) (d : E) → i < j → j < length (insert es at e) → cmp (key (get_or (insert es at e) i d)) (key (get_or (insert es at e) j d)) ≡ Less
    rising i j d a b =
        let long = length-insert es at e le in
        by_spots (spot es at e i d le (omega arith)) (spot es at e j d le b)
      where
        by_spots : Spot es at e i d → Spot es at e j d → cmp (key (get_or (insert es at e) i d)) (key (get_or (insert es at e) j d)) ≡ Less
        by_spots (before u f) (before v g) = both i j d (get_or es i d) (get_or es j d) f g (h.rising i j d a (omega (arith, le)))
        by_spots (before u f) (here v g) = both i j d (get_or es i d) e f g (less i d u)
        by_spots (before u f) (after k v w l g) = both i j d (get_or es i d) (get_or es k d) f g (h.rising i k d (omega arith) l)
        by_spots (here u f) (before v g) = absurd (omega arith)
        by_spots (here u f) (here v g) = absurd (omega arith)
        by_spots (here u f) (after k v w l g) = both i j d e (get_or es k d) f g (more k d w l)
        by_spots (after k u w l f) (before v g) = absurd (omega arith)
        by_spots (after k u w l f) (here v g) = absurd (omega arith)
        by_spots (after k u w l f) (after m v y n g) = both i j d (get_or es k d) (get_or es m d) f g (h.rising k m d (omega arith) n)

    old_right : (k : ℕ) (d : E) → k < length es → (place (get_or es k d) < length (os ++ x ∷ [])) × (of (get_or (os ++ x ∷ []) (place (get_or es k d)) nothing) ≡ key (get_or es k d))
    old_right k d a =
        let r = h.right k d a in
        (omega (arith, r.0, length_push os x), ap of (get_or_append_left os (x ∷ []) nothing (place (get_or es k d)) r.0) ∙ r.1)

    right : All (λ (y : E). (place y < length (os ++ x ∷ [])) × (of (get_or (os ++ x ∷ []) (place y) nothing) ≡ key y)) (insert es at e)
    right i d a = by_spot (spot es at e i d le a)
      where
        moved : (y : E) → get_or (insert es at e) i d ≡ y → (place y < length (os ++ x ∷ [])) × (of (get_or (os ++ x ∷ []) (place y) nothing) ≡ key y) → (place (get_or (insert es at e) i d) < length (os ++ x ∷ [])) × (of (get_or (os ++ x ∷ []) (place (get_or (insert es at e) i d)) nothing) ≡ key (get_or (insert es at e) i d))
        moved y f r = subst (λ (z : E). (place z < length (os ++ x ∷ [])) × (of (get_or (os ++ x ∷ []) (place z) nothing) ≡ key z)) (sym f) r

        by_spot : Spot es at e i d → (place (get_or (insert es at e) i d) < length (os ++ x ∷ [])) × (of (get_or (os ++ x ∷ []) (place (get_or (insert es at e) i d)) nothing) ≡ key (get_or (insert es at e) i d))
        by_spot (before u f) = moved (get_or es i d) f (old_right i d (omega (arith, le)))
        by_spot (here u f) = moved e f (omega (arith, placed, length_push os x), ap of (get_or_push os x nothing (place e) (sym placed)) ∙ sym keyed)
        by_spot (after k u w l f) = moved (get_or es k d) f (old_right k d l)

    covered : (k : ℕ) → k < length (os ++ x ∷ []) → 0 < (get_or (os ++ x ∷ []) k nothing).left → (i : ℕ) × (i < length (insert es at e)) × ((d : E) → place (get_or (insert es at e) i d) ≡ k)
    covered k a l = elim (cases_lt k (length os)) [
      | inl b ↦
          let c = h.covered k b (subst (λ (o : Resting). 0 < o.left) (get_or_append_left os (x ∷ []) nothing k b) l) in
          elim (cases_lt c.0 at) [
            | inl u ↦ (c.0, omega (arith, c.1, length-insert es at e le), λ d. ap place (get_or-insert_below es at e d c.0 u le) ∙ c.2 d)
            | inr u ↦ (c.0 + 1, omega (arith, c.1, length-insert es at e le), λ d. ap place (get_or-insert_above es at e d c.0 u le) ∙ c.2 d)
          ]
      | inr b ↦
          let last : k ≡ length os = omega (arith, length_push os x) in
          (at, omega (arith, length-insert es at e le), λ d. ap place (get_or-insert_at es at e d le) ∙ placed ∙ sym last)
    ]

-- ---- an entry stands in the place of one with its key, whose order has left
pub index_replace : {E K : Type 0} (key : E → K) (place : E → ℕ) (cmp : K → K → Ordering) (of : Resting → K) → IsTotalOrder cmp → (os : List Resting) (es : List E) (x : Resting) (e old : E) (at : ℕ) → IsIndex key place cmp of os es → key e ≡ of x → place e ≡ length os → at < length es → ((d : E) → get_or es at d ≡ old) → cmp (key old) (of x) ≡ Equal → ((k : ℕ) → k < length os → 0 < (get_or os k nothing).left → cmp (of (get_or os k nothing)) (of x) ≢ Equal) → IsIndex key place cmp of (os ++ x ∷ []) (set es at e)
index_replace {E} {K} key place cmp of t os es x e old at h keyed placed within was tie fresh = record { rising = rising; right = right; covered = covered }
  where
    equal : cmp (key old) (key e) ≡ Equal
    equal = ap (cmp (key old)) keyed ∙ tie

    -- the new key compares as the old one
    as_first : (z : K) → cmp (key e) z ≡ cmp (key old) z
    as_first z = sym (t.congr (key old) (key e) z equal)

    rising : (i j : ℕ) (d : E) → i < j → j < length (set es at e) → cmp (key (get_or (set es at e) i d)) (key (get_or (set es at e) j d)) ≡ Less
    rising i j d a b =
        let long = length-set es at e in
        let w : j < length es = omega arith in
        elim (cases_eq i at) [
          | inl s ↦
              let n : j ≢ at = omega arith in
              let f : get_or (set es at e) i d ≡ e = ap (λ k. get_or (set es at e) k d) s ∙ get_or-set_same es at e d within in
              let g : get_or (set es at e) j d ≡ get_or es j d = get_or-set_other es at j e d n in
              let o : get_or es i d ≡ old = ap (λ k. get_or es k d) s ∙ was d in
              let r : cmp (key old) (key (get_or es j d)) ≡ Less = subst (λ (y : E). cmp (key y) (key (get_or es j d)) ≡ Less) o (h.rising i j d a w) in
              ap (λ y. cmp (key y) (key (get_or (set es at e) j d))) f ∙ ap (λ y. cmp (key e) (key y)) g ∙ as_first (key (get_or es j d)) ∙ r
          | inr n ↦
              let f : get_or (set es at e) i d ≡ get_or es i d = get_or-set_other es at i e d n in
              elim (cases_eq j at) [
                | inl s ↦
                    let g : get_or (set es at e) j d ≡ e = ap (λ k. get_or (set es at e) k d) s ∙ get_or-set_same es at e d within in
                    let o : get_or es j d ≡ old = ap (λ k. get_or es k d) s ∙ was d in
                    let r : cmp (key (get_or es i d)) (key old) ≡ Less = subst (λ (y : E). cmp (key (get_or es i d)) (key y) ≡ Less) o (h.rising i j d a w) in
                    let back : cmp (key e) (key (get_or es i d)) ≡ Greater = as_first (key (get_or es i d)) ∙ turned_less cmp t (key (get_or es i d)) (key old) r in
                    ap (λ y. cmp (key y) (key (get_or (set es at e) j d))) f ∙ ap (λ y. cmp (key (get_or es i d)) (key y)) g ∙ turned_greater cmp t (key e) (key (get_or es i d)) back
                | inr m ↦
                    let g : get_or (set es at e) j d ≡ get_or es j d = get_or-set_other es at j e d m in
                    ap (λ y. cmp (key y) (key (get_or (set es at e) j d))) f ∙ ap (λ y. cmp (key (get_or es i d)) (key y)) g ∙ h.rising i j d a w
              ]
        ]

    right : All (λ (y : E). (place y < length (os ++ x ∷ [])) × (of (get_or (os ++ x ∷ []) (place y) nothing) ≡ key y)) (set es at e)
    right i d a =
        let w : i < length es = omega (arith, length-set es at e) in
        elim (cases_eq i at) [
          | inl s ↦
              let f : get_or (set es at e) i d ≡ e = ap (λ k. get_or (set es at e) k d) s ∙ get_or-set_same es at e d within in
              moved e f (omega (arith, placed, length_push os x), ap of (get_or_push os x nothing (place e) (sym placed)) ∙ sym keyed)
          | inr n ↦
              let r = h.right i d w in
              moved (get_or es i d) (get_or-set_other es at i e d n) (omega (arith, r.0, length_push os x), ap of (get_or_append_left os (x ∷ []) nothing (place (get_or es i d)) r.0) ∙ r.1)
        ]
      where
        moved : (y : E) → get_or (set es at e) i d ≡ y → (place y < length (os ++ x ∷ [])) × (of (get_or (os ++ x ∷ []) (place y) nothing) ≡ key y) → (place (get_or (set es at e) i d) < length (os ++ x ∷ [])) × (of (get_or (os ++ x ∷ []) (place (get_or (set es at e) i d)) nothing) ≡ key (get_or (set es at e) i d))
        moved y f r = subst (λ (z : E). (place z < length (os ++ x ∷ [])) × (of (get_or (os ++ x ∷ []) (place z) nothing) ≡ key z)) (sym f) r

    covered : (k : ℕ) → k < length (os ++ x ∷ []) → 0 < (get_or (os ++ x ∷ []) k nothing).left → (i : ℕ) × (i < length (set es at e)) × ((d : E) → place (get_or (set es at e) i d) ≡ k)
    covered k a l = elim (cases_lt k (length os)) [
      | inl b ↦
          let live : 0 < (get_or os k nothing).left = subst (λ (o : Resting). 0 < o.left) (get_or_append_left os (x ∷ []) nothing k b) l in
          let c = h.covered k b live in
          let other : c.0 ≢ at = λ s. fresh k b live (ap (λ z. cmp z (of x)) (sym (entry_key key place cmp of os es h c.0 k old c.1 (c.2 old))) ∙ ap (λ i. cmp (key (get_or es i old)) (of x)) s ∙ ap (λ y. cmp (key y) (of x)) (was old) ∙ tie) in
          (c.0, omega (arith, c.1, length-set es at e), λ d. ap place (get_or-set_other es at c.0 e d other) ∙ c.2 d)
      | inr b ↦
          let last : k ≡ length os = omega (arith, length_push os x) in
          (at, omega (arith, within, length-set es at e), λ d. ap place (get_or-set_same es at e d within) ∙ placed ∙ sym last)
    ]

-- ---- orders give shares or leave
pub index_lessened : {E K : Type 0} (key : E → K) (place : E → ℕ) (cmp : K → K → Ordering) (of : Resting → K) → ((o x : Resting) → IsLessened o x → of x ≡ of o) → (os new : List Resting) (es : List E) → AreLessened os new → IsIndex key place cmp of os es → IsIndex key place cmp of new es
index_lessened key place cmp of stays os new es a h = record {
  rising = h.rising;
  right = λ k d w. (let r = h.right k d w in (omega (arith, r.0, a.same), stays (get_or os (place (get_or es k d)) nothing) (get_or new (place (get_or es k d)) nothing) (a.each (place (get_or es k d))) ∙ r.1));
  covered = λ k w l. h.covered k (omega (arith, w, a.same)) (omega (arith, l, (a.each k).left));
}

-- ---- references
pub reference_total : IsTotalOrder nat_cmp
reference_total = nat_cmp_total

pub equal_reference : (a b : ℕ) → nat_cmp a b ≡ Equal → a ≡ b
equal_reference a b e = elim (cases_lt a b) [
  | inl h ↦ (let t : ltb a b ≡ true = grind (arith, nat_tests) in let k : cond true Less (cond (eqb a b) Equal Greater) ≡ Equal = rw t at e in absurd (cc k))
  | inr h ↦ elim (cases_eq a b) [
    | inl s ↦ s
    | inr n ↦
        let t : ltb a b ≡ false = grind (arith, nat_tests) in
        let u : eqb a b ≡ false = ne_eqb a b n in
        let k : cond false Less (cond (eqb a b) Equal Greater) ≡ Equal = rw t at e in
        let m : cond false Equal Greater ≡ Equal = rw u at k in
        absurd (cc m)
  ]
]

pub reference_ties : (a b : ℕ) → eqb a b ≡ true → nat_cmp a b ≡ Equal
reference_ties a b e =
    let t : ltb a b ≡ false = grind (arith, nat_tests) in
    rw (t, e) refl

pub references_lessened : (os new : List Resting) (es : List ReferenceEntry) → AreLessened os new → IsByReference os es → IsByReference new es
references_lessened os new es = index_lessened (λ (e : ReferenceEntry). e.reference) (λ (e : ReferenceEntry). e.place) nat_cmp (λ (o : Resting). o.reference) (λ o x l. l.reference) os new es

-- ---- searches by a key
-- what a test of open orders says of one index
pub record AgreesWith {K : Type 0} (cmp : K → K → Ordering) (of : Resting → K) (q : K) (p : Resting → Bool) : Type 0 where
  pub ties : (o : Resting) → p o ≡ true → cmp (of o) q ≡ Equal
  pub passes : (o : Resting) → cmp (of o) q ≡ Equal → p o ≡ true

pub found_by : {E K : Type 0} (key : E → K) (place : E → ℕ) (cmp : K → K → Ordering) (of : Resting → K) → IsTotalOrder cmp → (os : List Resting) (es : List E) → IsIndex key place cmp of os es → (q : K) (p : Resting → Bool) → AgreesWith cmp of q p → (at : ℕ) (d : E) → at < length es → cmp (key (get_or es at d)) q ≡ Equal → 0 < (get_or os (place (get_or es at d)) nothing).left → find p (open_orders os) ≡ Some (get_or os (place (get_or es at d)) nothing)
found_by key place cmp of t os es x q p g at d h e l =
    let r = x.right at d h in
    let tie : cmp (of (get_or os (place (get_or es at d)) nothing)) q ≡ Equal = ap (λ z. cmp z q) r.1 ∙ e in
    find_only p os (place (get_or es at d)) r.0 l (g.passes (get_or os (place (get_or es at d)) nothing) tie) (λ k w m s. only_place key place cmp of t os es x at d q h e k w m (g.ties (get_or os k nothing) s))

pub closed_by : {E K : Type 0} (key : E → K) (place : E → ℕ) (cmp : K → K → Ordering) (of : Resting → K) → IsTotalOrder cmp → (os : List Resting) (es : List E) → IsIndex key place cmp of os es → (q : K) (p : Resting → Bool) → AgreesWith cmp of q p → (at : ℕ) (d : E) → at < length es → cmp (key (get_or es at d)) q ≡ Equal → (get_or os (place (get_or es at d)) nothing).left ≡ 0 → find p (open_orders os) ≡ None
closed_by key place cmp of t os es x q p g at d h e z =
    find_nobody p os (λ k w m s. (let one : k ≡ place (get_or es at d) = only_place key place cmp of t os es x at d q h e k w m (g.ties (get_or os k nothing) s) in omega (arith, m, z, ap (λ j. (get_or os j nothing).left) one)))

pub absent_by : {E K : Type 0} (key : E → K) (place : E → ℕ) (cmp : K → K → Ordering) (of : Resting → K) → IsTotalOrder cmp → (os : List Resting) (es : List E) → IsIndex key place cmp of os es → (q : K) (p : Resting → Bool) → AgreesWith cmp of q p → (at : ℕ) (d : E) → IsFrom key cmp es q at → ((d : E) → at < length es → cmp (key (get_or es at d)) q ≢ Equal) → find p (open_orders os) ≡ None
absent_by key place cmp of t os es x q p g at d f free =
    find_nobody p os (λ k w m s. no_place key place cmp of os es x d q (λ i h. none_ties key place cmp of t os es x q at f free i d h) k w m (g.ties (get_or os k nothing) s))

pub agrees_reference : (reference : ℕ) → AgreesWith nat_cmp (λ (o : Resting). o.reference) reference (λ (o : Resting). eqb o.reference reference)
agrees_reference reference = record {
  ties = λ o e. reference_ties o.reference reference e;
  passes = λ o e. eq-eqb o.reference reference (equal_reference o.reference reference e);
}

-- ---- no open order has the key of one that comes
pub fresh_reference : (os : List Resting) (x : Resting) → All (λ (o : Resting). o.reference < x.reference) (open_orders os) → (k : ℕ) → k < length os → 0 < (get_or os k nothing).left → nat_cmp (get_or os k nothing).reference x.reference ≢ Equal
fresh_reference os x a k w l e =
    let less : (get_or os k nothing).reference < x.reference = open_each (λ (o : Resting). o.reference < x.reference) os k w l (recursion_from_All (λ (o : Resting). o.reference < x.reference) (open_orders os) a) in
    let same : (get_or os k nothing).reference ≡ x.reference = equal_reference (get_or os k nothing).reference x.reference e in
    omega arith
