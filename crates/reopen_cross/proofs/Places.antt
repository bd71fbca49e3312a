-- Orders that are sorted are filled as one looks for the first each time.
use Rattle.std.proofs.Common.{◌≡◌, ◌≢◌, ◌⊎◌, ◌≤◌, ◌<◌, ℕ, zero, suc, ◌+◌, ◌-◌, ◌*◌, min, Bool, true, false, cond, not, ltb, eqb, List, [], ◌∷◌, Contains, length, get_or, drop, refl, sym, ap, ◌∙◌, subst, inl, inr, arith, count_by, filter}
use Rattle.std.specs.Prelude.{◌&&◌, ◌||◌}
use Rattle.std.specs.Cmp.{IsStrictWeakOrder}
use Rattle.std.specs.List.{AllByRecursion, best_of}
use Rattle.std.specs.List.Sorted.{IsPermutation, IsSortedBy}
use Rattle.std.specs.Ordering.{is_lt, nat_cmp, ordering_then}
use Rattle.std.proofs.lemmas.Bool.{cases_Bool, cases_eq, eq-eqb, ne_eqb}
use Rattle.std.proofs.lemmas.Bool.Decides.{nat_tests}
use Rattle.std.proofs.lemmas.List.{at_drop_more}
use Rattle.std.proofs.lemmas.List.Elements.{All-contains_itself, recursion_from_All}
use Rattle.std.proofs.lemmas.List.Sorted.{All-permutation, IsPermutation-sym, sorted_far, sum_by-IsPermutation}
use Rattle.std.proofs.lemmas.List.Sums.{sum_by-cons}
use Rattle.market_types.specs.declared.order.Side.{Side}
use Rattle.market_types.specs.declared.order.Side.TheVariants.{Buy, Sell}
use Rattle.reopen_cross.specs.declared.cross.Interest.{Interest}
use Rattle.reopen_cross.specs.Orderly.{IsRising}
use Rattle.reopen_cross.specs.Parts.{filled, is_ahead, others, part_of}
use Rattle.reopen_cross.specs.Places.{filled_along, lateness, ordinal}
use Rattle.reopen_cross.proofs.Adds.{filled-none, nobody}
use Rattle.reopen_cross.proofs.Filled.{In, all-filter, all-in, best-in, rising-filter}

-- ---- the order of the places
abbrev less : ℕ → ℕ → ℕ → ℕ → Bool
less p r q s = ltb p q || (eqb p q && ltb r s)

-- an order is filled before another
abbrev pub before : Side → Interest → Interest → Bool
before side a b = less (ordinal side a) a.reference (ordinal side b) b.reference

ahead-ordinal : (side : Side) (a b : Interest) → a.price ≤ 4294967295 → b.price ≤ 4294967295 → is_ahead side a b ≡ ltb (ordinal side a) (ordinal side b)
ahead-ordinal Buy a b h k = way a.price b.price a.shown b.shown h k
  where
    way : (p q : ℕ) (s t : Bool) → p ≤ 4294967295 → q ≤ 4294967295 → (ltb q p || (eqb p q && (s && not t))) ≡ ltb (2 * (4294967295 - p) + lateness s) (2 * (4294967295 - q) + lateness t)
    way p q true true h k = grind (arith, nat_tests)
    way p q true false h k = grind (arith, nat_tests)
    way p q false true h k = grind (arith, nat_tests)
    way p q false false h k = grind (arith, nat_tests)
ahead-ordinal Sell a b h k = way a.price b.price a.shown b.shown
  where
    way : (p q : ℕ) (s t : Bool) → (ltb p q || (eqb p q && (s && not t))) ≡ ltb (2 * p + lateness s) (2 * q + lateness t)
    way p q true true = grind (arith, nat_tests)
    way p q true false = grind (arith, nat_tests)
    way p q false true = grind (arith, nat_tests)
    way p q false false = grind (arith, nat_tests)

less-first : (p r q s : ℕ) → ltb p q ≡ true → less p r q s ≡ true
less-first p r q s h = grind (arith, nat_tests)

less-on : (p r q s u t : ℕ) → less p r q s ≡ true → ltb q u ≡ true → less p r u t ≡ true
less-on p r q s u t h k = grind (arith, nat_tests)

less-later : (p r q s : ℕ) → ltb q p ≡ false → r < s → less p r q s ≡ true
less-later p r q s h k = grind (arith, nat_tests)

less-past : (p r q s u t : ℕ) → less p r q s ≡ true → ltb u q ≡ false → s < t → less p r u t ≡ true
less-past p r q s u t h k l = grind (arith, nat_tests)

less-one_way : (p r q s : ℕ) → less p r q s ≡ true → less q s p r ≡ false
less-one_way p r q s h = grind (arith, nat_tests)

less-chain : (p r q s u t : ℕ) → less p r q s ≡ false → less q s u t ≡ false → less p r u t ≡ false
less-chain p r q s u t h k = grind (arith, nat_tests)

strict-before : (side : Side) → IsStrictWeakOrder (before side)
strict-before side = record {
  one_way = λ a b h. less-one_way (ordinal side a) a.reference (ordinal side b) b.reference h;
  chain = λ a b c h k. less-chain (ordinal side a) a.reference (ordinal side b) b.reference (ordinal side c) c.reference h k;
}

-- ---- the first of a list leads
abbrev Leads : Side → Interest → Interest → Type 0
Leads side f y = (y ≡ f) ⊎ (before side f y ≡ true)

best-leads : (side : Side) (b : Interest) (w : List Interest) → b.price ≤ 4294967295 → AllByRecursion (λ (o : Interest). o.price ≤ 4294967295) w → AllByRecursion (λ (o : Interest). b.reference < o.reference) w → IsRising w → AllByRecursion (Leads side (best_of (is_ahead side) b w)) (b ∷ w)
best-leads side b [] p ps r rs = (inl refl, tt)
best-leads side b (x ∷ w) p ps r rs =
    elim (cases_Bool (is_ahead side x b)) [
      | inl h ↦
          let g = best_of (is_ahead side) x w in
          let rest = best-leads side x w ps.0 ps.1 rs.0 rs.1 in
          let t : ltb (ordinal side x) (ordinal side b) ≡ true = sym (ahead-ordinal side x b ps.0 p) ∙ h in
          subst (λ (y : Interest). AllByRecursion (Leads side (best_of (is_ahead side) y w)) (b ∷ (x ∷ w))) (sym (ap (λ c. cond c x b) h)) (inr (over g t rest.0), (rest.0, rest.1))
      | inr h ↦
          let g = best_of (is_ahead side) b w in
          let rest = best-leads side b w p ps.1 r.1 rs.1 in
          let t : ltb (ordinal side x) (ordinal side b) ≡ false = sym (ahead-ordinal side x b ps.0 p) ∙ h in
          subst (λ (y : Interest). AllByRecursion (Leads side (best_of (is_ahead side) y w)) (b ∷ (x ∷ w))) (sym (ap (λ c. cond c x b) h)) (rest.0, (inr (past g t rest.0), rest.1))
    ]
  where
    over : (g : Interest) → ltb (ordinal side x) (ordinal side b) ≡ true → Leads side g x → before side g b ≡ true
    over g t (inl e) = subst (λ (y : Interest). before side y b ≡ true) e (less-first (ordinal side x) x.reference (ordinal side b) b.reference t)
    over g t (inr k) = less-on (ordinal side g) g.reference (ordinal side x) x.reference (ordinal side b) b.reference k t

    past : (g : Interest) → ltb (ordinal side x) (ordinal side b) ≡ false → Leads side g b → before side g x ≡ true
    past g t (inl e) = subst (λ (y : Interest). before side y x ≡ true) e (less-later (ordinal side b) b.reference (ordinal side x) x.reference t r.0)
    past g t (inr k) = less-past (ordinal side g) g.reference (ordinal side b) b.reference (ordinal side x) x.reference k t r.0

-- ---- members
all-from : (P : Interest → Type 0) (w : List Interest) → ((y : Interest) → In y w → P y) → AllByRecursion P w
all-from P [] f = tt
all-from P (x ∷ w) f = (f x (inl refl), all-from P w (λ y i. f y (inr i)))

in-filter : (t : Interest → Bool) (os : List Interest) (y : Interest) → In y os → t y ≡ true → In y (filter t os)
in-filter t [] y i h = absurd i
in-filter t (o ∷ os) y (inl e) h = subst (λ b. In y (cond b (o ∷ filter t os) (filter t os))) (sym (ap t e ∙ h)) (inl e)
in-filter t (o ∷ os) y (inr i) h = elim (t o) as (λ b. In y (cond b (o ∷ filter t os) (filter t os))) [ true ↦ inr (in-filter t os y i h) | false ↦ in-filter t os y i h ]

from-filter : (t : Interest → Bool) (os : List Interest) (y : Interest) → In y (filter t os) → In y os × (t y ≡ true)
from-filter t [] y i = absurd i
from-filter t (o ∷ os) y i =
    elim (cases_Bool (t o)) [
      | inl h ↦ taken h (subst (λ b. In y (cond b (o ∷ filter t os) (filter t os))) h i) (from-filter t os y)
      | inr h ↦ (let r = from-filter t os y (subst (λ b. In y (cond b (o ∷ filter t os) (filter t os))) h i) in (inr r.0, r.1))
    ]
  where
    taken : t o ≡ true → In y (o ∷ filter t os) → (In y (filter t os) → In y os × (t y ≡ true)) → In y (o ∷ os) × (t y ≡ true)
    taken h (inl e) f = (inl e, ap t (sym e) ∙ h)
    taken h (inr i) f = (let r = f i in (inr r.0, r.1))

in-at : (w : List Interest) (y : Interest) (k : ℕ) → k < length w → get_or w k y ≡ y → In y w
in-at [] y k h e = absurd (omega arith)
in-at (x ∷ w) y zero h e = inl e
in-at (x ∷ w) y (suc k) h e = inr (in-at w y k (omega (arith, h)) e)

in-from : (w : List Interest) (y : Interest) → Contains w y → In y w
in-from w y c = in-at w y c.0 c.1 c.2

-- ---- each reference once
abbrev times : ℕ → List Interest → ℕ
times r os = count_by (λ (o : Interest). eqb o.reference r) os

times-cons : (r : ℕ) (o : Interest) (os : List Interest) → times r (o ∷ os) ≡ cond (eqb o.reference r) 1 0 + times r os
times-cons r o os = sum_by-cons (λ (x : Interest). cond (eqb x.reference r) 1 0) o os

one-or : (a b : ℕ) → a ≡ b → ◌≡◌ {A = ℕ} (cond (eqb a b) 1 0) 1
one-or a b e = grind (arith, nat_tests)

zero-or : (a b : ℕ) → a ≢ b → ◌≡◌ {A = ℕ} (cond (eqb a b) 1 0) 0
zero-or a b e = grind (arith, nat_tests)

none-above : (r : ℕ) (os : List Interest) → AllByRecursion (λ (o : Interest). r < o.reference) os → times r os ≡ 0
none-above r [] a = refl
none-above r (o ∷ os) a = omega (arith, times-cons r o os, none-above r os a.1, zero-or o.reference r (λ e. omega (arith, e, a.0)))

rising-once : (os : List Interest) → IsRising os → (r : ℕ) → times r os ≤ 1
rising-once [] h r = omega arith
rising-once (o ∷ os) h r =
    elim (cases_eq o.reference r) [
      | inl e ↦ omega (arith, times-cons r o os, one-or o.reference r e, none-above r os (subst (λ n. AllByRecursion (λ (x : Interest). n < x.reference) os) e h.0))
      | inr n ↦ omega (arith, times-cons r o os, zero-or o.reference r n, rising-once os h.1 r)
    ]

not-there : (r : ℕ) (os : List Interest) → times r os ≡ 0 → AllByRecursion (λ (o : Interest). o.reference ≢ r) os
not-there r [] h = tt
not-there r (o ∷ os) h = ((λ e. omega (arith, times-cons r o os, one-or o.reference r e, h)), not-there r os (omega (arith, times-cons r o os, h)))

-- ---- sorted
abbrev pub IsOrdered : Side → List Interest → Type 0
IsOrdered side [] = Unit {0}
IsOrdered side (x ∷ v) = AllByRecursion (λ (y : Interest). before side y x ≡ false) v × IsOrdered side v

ordered : (side : Side) (v : List Interest) → ((i j : ℕ) (d : Interest) → i ≤ j → j < length v → before side (get_or v j d) (get_or v i d) ≡ false) → IsOrdered side v
ordered side [] f = tt
ordered side (x ∷ v) f = (recursion_from_All (λ (y : Interest). before side y x ≡ false) v (λ k d h. f 0 (suc k) d (omega arith) (omega (arith, h))), ordered side v (λ i j d h k. f (suc i) (suc j) d (omega (arith, h)) (omega (arith, k))))

-- a list and what it is sorted into
pub record IsSortOf (side : Side) (os v : List Interest) : Type 0 where
  pub rising : IsRising os
  pub priced : AllByRecursion (λ (o : Interest). o.price ≤ 4294967295) os
  pub covers : AllByRecursion (λ (y : Interest). In y v) os
  pub covered : AllByRecursion (λ (y : Interest). In y os) v
  pub once : (r : ℕ) → times r v ≤ 1
  pub sorted : IsOrdered side v

weaker : (P Q : Interest → Type 0) → ((y : Interest) → P y → Q y) → (w : List Interest) → AllByRecursion P w → AllByRecursion Q w
weaker P Q f [] a = tt
weaker P Q f (x ∷ w) a = (f x a.0, weaker P Q f w a.1)

pub sort-of : (side : Side) (os v : List Interest) → IsRising os → AllByRecursion (λ (o : Interest). o.price ≤ 4294967295) os → IsPermutation os v → IsSortedBy (before side) v → IsSortOf side os v
sort-of side os v rising priced p sorted = record {
  rising = rising;
  priced = priced;
  covers = weaker (Contains v) (λ y. In y v) (in-from v) os (recursion_from_All (Contains v) os (All-permutation (Contains v) v os (IsPermutation-sym os v p) (All-contains_itself v)));
  covered = weaker (Contains os) (λ y. In y os) (in-from os) v (recursion_from_All (Contains os) v (All-permutation (Contains os) os v p (All-contains_itself os)));
  once = λ r. omega (arith, rising-once os rising r, sum_by-IsPermutation (λ (o : Interest). cond (eqb o.reference r) 1 0) os v p);
  sorted = ordered side v (sorted_far (before side) (strict-before side) v sorted);
}

-- the first of what is sorted is the one that is looked for
first-is : (side : Side) (o x : Interest) (w v : List Interest) → IsSortOf side (o ∷ w) (x ∷ v) → x ≡ best_of (is_ahead side) o w
first-is side o x w v s =
    let f = best_of (is_ahead side) o w in
    let leads = best-leads side o w s.priced.0 s.priced.1 s.rising.0 s.rising.1 in
    pick f (all-in (Leads side f) x (o ∷ w) leads s.covered.0) (all-in (λ y. In y (x ∷ v)) f (o ∷ w) s.covers (best-in (is_ahead side) o w))
  where
    pick : (f : Interest) → Leads side f x → In f (x ∷ v) → x ≡ f
    pick f (inl e) i = e
    pick f (inr b) (inl e) = e
    pick f (inr b) (inr i) = absurd (apart b (all-in (λ y. before side y x ≡ false) f v s.sorted.0 i))
      where
        apart : before side f x ≡ true → before side f x ≡ false → ⊥
        apart b n = cc (sym b ∙ n)

abbrev stays : ℕ → Interest → Bool
stays r y = not (eqb y.reference r)

-- and the others are sorted into the rest
rest-is : (side : Side) (x : Interest) (os v : List Interest) → IsSortOf side os (x ∷ v) → IsSortOf side (others x.reference os) v
rest-is side x os v s =
    let gone = not-there x.reference v (omega (arith, times-cons x.reference x v, one-or x.reference x.reference refl, s.once x.reference)) in
    record {
      rising = rising-filter (stays x.reference) os s.rising;
      priced = all-filter (λ (o : Interest). o.price ≤ 4294967295) (stays x.reference) os s.priced;
      covers = all-from (λ y. In y v) (filter (stays x.reference) os) (λ y i. (let r = from-filter (stays x.reference) os y i in later y (all-in (λ z. In z (x ∷ v)) y os s.covers r.0) r.1));
      covered = all-from (λ y. In y (filter (stays x.reference) os)) v (λ y i. in-filter (stays x.reference) os y (all-in (λ z. In z os) y v s.covered.1 i) (ap not (ne_eqb y.reference x.reference (all-in (λ (z : Interest). z.reference ≢ x.reference) y v gone i))));
      once = λ r. omega (arith, times-cons r x v, s.once r);
      sorted = s.sorted.1;
    }
  where
    later : (y : Interest) → In y (x ∷ v) → stays x.reference y ≡ true → In y v
    later y (inl e) h = absurd (both (eq-eqb y.reference x.reference (ap (λ (z : Interest). z.reference) (sym e))) h)
      where
        both : eqb y.reference x.reference ≡ true → not (eqb y.reference x.reference) ≡ true → ⊥
        both a b = cc (sym (ap not a) ∙ b)
    later y (inr i) h = i

-- one who looks for the first each time fills as one who goes along what is sorted
pub filled-along : (n : ℕ) (side : Side) (w : ℕ) (os v : List Interest) → length v ≤ n → IsSortOf side os v → filled n side w os ≡ filled_along w v
filled-along n side w [] [] l s = filled-none n side w [] refl
filled-along n side w (o ∷ os) [] l s = absurd s.covers.0
filled-along n side w [] (x ∷ v) l s = absurd s.covered.0
filled-along zero side w (o ∷ os) (x ∷ v) l s = absurd (omega (arith, l))
filled-along (suc n) side w (o ∷ os) (x ∷ v) l s =
    ap (λ (y : Interest). cond (eqb w 0) [] (part_of w y ∷ filled n side (w - min y.left w) (others y.reference (o ∷ os)))) (sym (first-is side o x os v s))
    ∙ ap (λ z. cond (eqb w 0) [] (part_of w x ∷ z)) (filled-along n side (w - min x.left w) (others x.reference (o ∷ os)) v (omega (arith, l)) (rest-is side x (o ∷ os) v s))

-- ---- going along
pub along-done : (w : ℕ) (os : List Interest) → w ≡ 0 → filled_along w os ≡ []
along-done w [] e = refl
along-done w (o ∷ os) e = ap (λ b. cond b [] (part_of w o ∷ filled_along (w - min o.left w) os)) (eq-eqb w 0 e)

pub along-next : (w : ℕ) (os : List Interest) (i : ℕ) → i < length os → w ≢ 0 → filled_along w (drop i os) ≡ part_of w (get_or os i nobody) ∷ filled_along (w - min (get_or os i nobody).left w) (drop (i + 1) os)
along-next w os i h nz = at_drop_more (filled_along w) os i nobody h ∙ ap (λ b. cond b [] (part_of w (get_or os i nobody) ∷ filled_along (w - min (get_or os i nobody).left w) (drop (i + 1) os))) (ne_eqb w 0 nz)

-- what isn't put before by its pair of numbers isn't filled before
pub not-before : (p r q s : ℕ) → is_lt (ordering_then (nat_cmp p q) (nat_cmp r s)) ≡ false → less p r q s ≡ false
not-before p r q s h = grind (arith, nat_tests)
