-- Lemmas on orders by stock, and on when they are those of a list.
use Rattle.std.proofs.Common.{◌≡◌, ℕ, ◌+◌, ◌<◌, ◌≤◌, zero, suc, Bool, true, false, cond, not, eqb, ltb, ◌&&◌, ◌||◌, List, [], ◌∷◌, ◌++◌, Option, Some, None, map, refl, sym, ap, ◌∙◌, arith, subst, inl, inr}
use Rattle.std.specs.List.{AllByRecursion, filter}
use Rattle.std.specs.Cmp.Lexicographic.{pointwise, pointwise_decides}
use Rattle.std.proofs.lemmas.Bool.{cases_lt, eqb-true}
use Rattle.std.proofs.lemmas.Bool.Decides.{nat_tests}
use Rattle.feed_rebuild.specs.declared.entries.Entry.{Entry}
use Rattle.feed_rebuild.specs.declared.shown.Shown.{Shown}
use Rattle.feed_rebuild.specs.Compared.{by_stock, follows, is_among, is_grouped, is_odd_in, is_same, least, lesser, odd_in, odd_of, or_zero, order_difference, settled}
use Rattle.feed_rebuild.specs.Entries.{kept, IsRising}
use Rattle.feed_rebuild.proofs.Marking.{kept-rises, Rises}
use Rattle.feed_rebuild.proofs.Places.{and-left, and-right}
use Rattle.feed_rebuild.proofs.Sames.{itself, same-decides, same-true}

-- facts of all elements
all-weaker : (P Q : Shown → Type 0) (os : List Shown) → ((o : Shown) → P o → Q o) → AllByRecursion P os → AllByRecursion Q os
all-weaker P Q [] f a = tt
all-weaker P Q (o ∷ os) f a = (f o a.0, all-weaker P Q os f a.1)

all-append : (P : Shown → Type 0) (os qs : List Shown) → AllByRecursion P os → AllByRecursion P qs → AllByRecursion P (os ++ qs)
all-append P [] qs a b = b
all-append P (o ∷ os) qs a b = (a.0, all-append P os qs a.1 b)

all-filter : (P : Shown → Type 0) (p : Shown → Bool) (os : List Shown) → AllByRecursion P os → AllByRecursion P (filter p os)
all-filter P p [] a = tt
all-filter P p (o ∷ os) a =
    let rest = all-filter P p os a.1 in
    elim (p o) as (λ b. AllByRecursion P (cond b (o ∷ filter p os) (filter p os))) [ true ↦ (a.0, rest) | false ↦ rest ]

abbrev IsOf : ℕ → Shown → Type 0
IsOf n o = o.stock ≡ n

all-of : (n : ℕ) (os : List Shown) → AllByRecursion (IsOf n) (filter (λ (o : Shown). eqb o.stock n) os)
all-of n [] = tt
all-of n (o ∷ os) =
    let rest = all-of n os in
    elim (eqb o.stock n) as (λ b. (eqb o.stock n ≡ b) → AllByRecursion (IsOf n) (cond b (o ∷ filter (λ (o : Shown). eqb o.stock n) os) (filter (λ (o : Shown). eqb o.stock n) os))) [ true ↦ λ t. (eqb-true o.stock n t, rest) | false ↦ λ t. rest ] refl

abbrev IsUnder : ℕ → Shown → Type 0
IsUnder n o = o.stock < n

all-by_stock : (P : Shown → Type 0) (n : ℕ) (os : List Shown) → AllByRecursion P os → AllByRecursion P (by_stock n os)
all-by_stock P zero os a = tt
all-by_stock P (suc n) os a = all-append P (by_stock n os) (filter (λ (o : Shown). eqb o.stock n) os) (all-by_stock P n os a) (all-filter P (λ (o : Shown). eqb o.stock n) os a)

all-under : (n : ℕ) (os : List Shown) → AllByRecursion (IsUnder n) (by_stock n os)
all-under zero os = tt
all-under (suc n) os = all-append (IsUnder (suc n)) (by_stock n os) (filter (λ (o : Shown). eqb o.stock n) os)
    (all-weaker (IsUnder n) (IsUnder (suc n)) (by_stock n os) (λ o h. omega arith) (all-under n os))
    (all-weaker (IsOf n) (IsUnder (suc n)) (filter (λ (o : Shown). eqb o.stock n) os) (λ o h. omega arith) (all-of n os))

-- order by stock and reference
abbrev After : Shown → Shown → Type 0
After a b = follows (Some a) b ≡ true

after-steps : (s r t q u v : ℕ) → (ltb s t || (eqb s t && ltb r q)) ≡ true → (ltb t u || (eqb t u && ltb q v)) ≡ true → (ltb s u || (eqb s u && ltb r v)) ≡ true
after-steps s r t q u v h k = grind (arith, nat_tests)

after-not_back : (s r t q : ℕ) → (ltb s t || (eqb s t && ltb r q)) ≡ true → (ltb t s || (eqb t s && ltb q r)) ≡ true → ⊥
after-not_back s r t q h k = grind (arith, nat_tests)

after-of_one : (s r t q : ℕ) → s ≡ t → r < q → (ltb s t || (eqb s t && ltb r q)) ≡ true
after-of_one s r t q h k = grind (arith, nat_tests)

after-of_less : (s r t q : ℕ) → s < t → (ltb s t || (eqb s t && ltb r q)) ≡ true
after-of_less s r t q h = grind (arith, nat_tests)

-- each order is before all that follow it
abbrev Grouped : List Shown → Type 0
Grouped [] = Unit {0}
Grouped (o ∷ os) = AllByRecursion (After o) os × Grouped os

grouped-test : (before : Option Shown) (os : List Shown) → is_grouped before os ≡ true → Grouped os
grouped-test before [] h = tt
grouped-test before (o ∷ os) h =
    let rest : is_grouped (Some o) os ≡ true = and-right (follows before o) (is_grouped (Some o) os) h in
    (afters o os rest, grouped-test (Some o) os rest)
  where
    afters : (a : Shown) (os : List Shown) → is_grouped (Some a) os ≡ true → AllByRecursion (After a) os
    afters a [] h = tt
    afters a (o ∷ os) h =
        let here : After a o = and-left (follows (Some a) o) (is_grouped (Some o) os) h in
        let rest : is_grouped (Some o) os ≡ true = and-right (follows (Some a) o) (is_grouped (Some o) os) h in
        (here, all-weaker (After o) (After a) os (λ x k. after-steps a.stock a.reference o.stock o.reference x.stock x.reference here k) (afters o os rest))

test-grouped : (before : Option Shown) (os : List Shown) → Grouped os → AllByRecursion (λ (o : Shown). follows before o ≡ true) os → is_grouped before os ≡ true
test-grouped before [] g a = refl
test-grouped before (o ∷ os) g a = let t : follows before o ≡ true = a.0 in rw (t, test-grouped (Some o) os g.1 g.0) refl

grouped-append : (os qs : List Shown) → Grouped os → Grouped qs → AllByRecursion (λ (a : Shown). AllByRecursion (After a) qs) os → Grouped (os ++ qs)
grouped-append [] qs g h a = h
grouped-append (o ∷ os) qs g h a = (all-append (After o) os qs g.0 a.0, grouped-append os qs g.1 h a.1)

rises-above : (low : ℕ) (os : List Shown) → Rises low os → AllByRecursion (λ (o : Shown). low ≤ o.reference) os
rises-above low [] r = tt
rises-above low (o ∷ os) r = (r.0, all-weaker (λ (x : Shown). o.reference + 1 ≤ x.reference) (λ (x : Shown). low ≤ x.reference) os (λ x h. omega (arith, r.0)) (rises-above (o.reference + 1) os r.1))

both-all : (P Q R : Shown → Type 0) (os : List Shown) → ((o : Shown) → P o → Q o → R o) → AllByRecursion P os → AllByRecursion Q os → AllByRecursion R os
both-all P Q R [] f a b = tt
both-all P Q R (o ∷ os) f a b = (f o a.0 b.0, both-all P Q R os f a.1 b.1)

grouped-of : (low n : ℕ) (os : List Shown) → Rises low os → Grouped (filter (λ (o : Shown). eqb o.stock n) os)
grouped-of low n [] r = tt
grouped-of low n (o ∷ os) r =
    let of_n = λ (x : Shown). eqb x.stock n in
    let rest = grouped-of (o.reference + 1) n os r.1 in
    let above = all-filter (λ (x : Shown). o.reference + 1 ≤ x.reference) of_n os (rises-above (o.reference + 1) os r.1) in
    elim (eqb o.stock n) as (λ b. (eqb o.stock n ≡ b) → Grouped (cond b (o ∷ filter (λ (x : Shown). eqb x.stock n) os) (filter (λ (x : Shown). eqb x.stock n) os))) [
      | true ↦ λ t. (both-all (λ (x : Shown). o.reference + 1 ≤ x.reference) (IsOf n) (After o) (filter (λ (x : Shown). eqb x.stock n) os) (λ x h k. after-of_one o.stock o.reference x.stock x.reference (eqb-true o.stock n t ∙ sym k) (omega (arith, h))) above (all-of n os), rest)
      | false ↦ λ t. rest
    ] refl

grouped-by_stock : (low n : ℕ) (os : List Shown) → Rises low os → Grouped (by_stock n os)
grouped-by_stock low zero os r = tt
grouped-by_stock low (suc n) os r = grouped-append (by_stock n os) (filter (λ (o : Shown). eqb o.stock n) os) (grouped-by_stock low n os r) (grouped-of low n os r)
    (all-weaker (IsUnder n) (λ (a : Shown). AllByRecursion (After a) (filter (λ (o : Shown). eqb o.stock n) os)) (by_stock n os)
    (λ a h. all-weaker (IsOf n) (After a) (filter (λ (o : Shown). eqb o.stock n) os) (λ x k. after-of_less a.stock a.reference x.stock x.reference (omega (arith, h, k))) (all-of n os))
    (all-under n os))

-- what stands in a list
abbrev StandsIn : List Shown → Shown → Type 0
StandsIn os o = is_among os o ≡ true

or-right : (a b : Bool) → b ≡ true → (a || b) ≡ true
or-right true b h = refl
or-right false b h = h

or-left : (a b : Bool) → a ≡ true → (a || b) ≡ true
or-left true b h = refl
or-left false b h = absurd (cc)

all-stand : (os : List Shown) → AllByRecursion (StandsIn os) os
all-stand [] = tt
all-stand (o ∷ os) = (or-left (is_same o o) (is_among os o) (itself o), all-weaker (StandsIn os) (StandsIn (o ∷ os)) os (λ x h. or-right (is_same x o) (is_among os x) h) (all-stand os))

stands-append : (os qs : List Shown) (o : Shown) → (is_among os o || is_among qs o) ≡ true → StandsIn (os ++ qs) o
stands-append [] qs o h = h
stands-append (x ∷ os) qs o h = step (is_same o x) (is_among os o) (is_among qs o) (is_among (os ++ qs) o) h (stands-append os qs o)
  where
    step : (a b c d : Bool) → ((a || b) || c) ≡ true → ((b || c) ≡ true → d ≡ true) → (a || d) ≡ true
    step true b c d h f = refl
    step false b c d h f = f h

stands-of : (n : ℕ) (os : List Shown) (o : Shown) → o.stock ≡ n → StandsIn os o → StandsIn (filter (λ (x : Shown). eqb x.stock n) os) o
stands-of n [] o s h = h
stands-of n (x ∷ os) o s h =
    let rest = stands-of n os o s in
    elim (eqb x.stock n) as (λ b. (eqb x.stock n ≡ b) → StandsIn (cond b (x ∷ filter (λ (x : Shown). eqb x.stock n) os) (filter (λ (x : Shown). eqb x.stock n) os)) o) [
      | true ↦ λ t. one (is_same o x) (is_among os o) (is_among (filter (λ (x : Shown). eqb x.stock n) os) o) h rest
      | false ↦ λ t. other (is_same o x) (is_among os o) (is_among (filter (λ (x : Shown). eqb x.stock n) os) o) h rest (λ e. no x.stock n t (ap (λ (y : Shown). y.stock) (sym (same-true o x e)) ∙ s))
    ] refl
  where
    one : (a b c : Bool) → (a || b) ≡ true → (b ≡ true → c ≡ true) → (a || c) ≡ true
    one true b c h f = refl
    one false b c h f = f h

    other : (a b c : Bool) → (a || b) ≡ true → (b ≡ true → c ≡ true) → (a ≡ true → ⊥) → c ≡ true
    other true b c h f n = absurd (n refl)
    other false b c h f n = f h

    no : (a b : ℕ) → eqb a b ≡ false → a ≡ b → ⊥
    no a b t e = grind (arith, nat_tests)

stands-by_stock : (n : ℕ) (os : List Shown) (o : Shown) → o.stock < n → StandsIn os o → StandsIn (by_stock n os) o
stands-by_stock zero os o h s = absurd (omega arith)
stands-by_stock (suc n) os o h s =
    let of_n = filter (λ (x : Shown). eqb x.stock n) os in
    stands-append (by_stock n os) of_n o (elim (cases_lt o.stock n) [
      | inl l ↦ or-left (is_among (by_stock n os) o) (is_among of_n o) (stands-by_stock n os o l s)
      | inr g ↦ or-right (is_among (by_stock n os) o) (is_among of_n o) (stands-of n os o (omega arith) s)
    ])

stands-under : (n : ℕ) (os : List Shown) (o : Shown) → AllByRecursion (IsUnder n) os → StandsIn os o → o.stock < n
stands-under n [] o a h = absurd (cc)
stands-under n (x ∷ os) o a h = elim (is_same o x) as (λ b. (is_same o x ≡ b) → (b || is_among os o) ≡ true → o.stock < n) [
  | true ↦ λ t k. subst (λ (y : Shown). y.stock < n) (sym (same-true o x t)) a.0
  | false ↦ λ t k. stands-under n os o a.1 k
] refl h

-- two lists by stock and reference with the same orders are one
tail-stands : (a b : Shown) (os qs : List Shown) → a ≡ b → AllByRecursion (After a) os → AllByRecursion (StandsIn (b ∷ qs)) os → AllByRecursion (StandsIn qs) os
tail-stands a b os qs e after stand = both-all (After a) (StandsIn (b ∷ qs)) (StandsIn qs) os
    (λ x h k. elim (is_same x b) as (λ t. (is_same x b ≡ t) → (t || is_among qs x) ≡ true → is_among qs x ≡ true) [
      | true ↦ λ t s. absurd (after-not_back a.stock a.reference x.stock x.reference h (subst (λ (y : Shown). After y a) (sym (same-true x b t)) (subst (λ (y : Shown). After y a) e (subst (λ (y : Shown). After a y) (same-true x b t ∙ sym e) h))))
      | false ↦ λ t s. s
    ] refl k) after stand

stands-after : (a b : Shown) (os : List Shown) → AllByRecursion (After b) os → StandsIn os a → After b a
stands-after a b [] f h = absurd (cc)
stands-after a b (x ∷ os) f h = elim (is_same a x) as (λ t. (is_same a x ≡ t) → (t || is_among os a) ≡ true → After b a) [
  | true ↦ λ t k. subst (λ (y : Shown). After b y) (sym (same-true a x t)) f.0
  | false ↦ λ t k. stands-after a b os f.1 k
] refl h

heads-same : (a b : Shown) (os qs : List Shown) → AllByRecursion (After a) os → AllByRecursion (After b) qs → StandsIn (b ∷ qs) a → StandsIn (a ∷ os) b → a ≡ b
heads-same a b os qs f g h k = elim (is_same a b) as (λ t. (is_same a b ≡ t) → (t || is_among qs a) ≡ true → a ≡ b) [
  | true ↦ λ t s. same-true a b t
  | false ↦ λ t s. elim (is_same b a) as (λ u. (is_same b a ≡ u) → (u || is_among os b) ≡ true → a ≡ b) [
    | true ↦ λ u r. sym (same-true b a u)
    | false ↦ λ u r. absurd (after-not_back b.stock b.reference a.stock a.reference (stands-after a b qs g s) (stands-after b a os f r))
  ] refl k
] refl h

same-grouped : (os qs : List Shown) → Grouped os → Grouped qs → AllByRecursion (StandsIn qs) os → AllByRecursion (StandsIn os) qs → os ≡ qs
same-grouped [] [] g h a b = refl
same-grouped [] (q ∷ qs) g h a b = absurd (no b.0)
  where
    no : false ≡ true → ⊥
    no e = cc
same-grouped (o ∷ os) [] g h a b = absurd (no a.0)
  where
    no : false ≡ true → ⊥
    no e = cc
same-grouped (o ∷ os) (q ∷ qs) g h a b =
    let e = heads-same o q os qs g.0 h.0 a.0 b.0 in
    let rest = same-grouped os qs g.1 h.1 (tail-stands o q os qs e g.0 a.1) (tail-stands q o qs os (sym e) h.0 b.1) in
    λ i. e i ∷ rest i

-- none is odd where all stand in the other list
none-odd : (others os : List Shown) → AllByRecursion (StandsIn others) os → odd_in others os ≡ []
none-odd others [] a = refl
none-odd others (o ∷ os) a = let t : is_among others o ≡ true = a.0 in rw t (none-odd others os a.1)

odd-none : (others os : List Shown) → odd_in others os ≡ [] → AllByRecursion (StandsIn others) os
odd-none others [] e = tt
odd-none others (o ∷ os) e = elim (is_among others o) as (λ b. (is_among others o ≡ b) → map (λ (x : Shown). x.reference) (cond (not b) (o ∷ filter (is_odd_in others) os) (filter (is_odd_in others) os)) ≡ [] → StandsIn others o × AllByRecursion (StandsIn others) os) [
  | true ↦ λ t k. (t, odd-none others os k)
  | false ↦ λ t k. absurd (no o.reference (odd_in others os) k)
] refl e
  where
    no : (n : ℕ) (ns : List ℕ) → n ∷ ns ≡ [] → ⊥
    no n ns e = cc

pub least-none : (ns : List ℕ) → least ns ≡ None → ns ≡ []
least-none [] e = refl
least-none (n ∷ ns) e = absurd (no n (least ns) e)
  where
    no : (n : ℕ) (x : Option ℕ) → lesser (Some n) x ≡ None → ⊥
    no n None e = cc
    no n (Some m) e = cc

append-none : (ns ms : List ℕ) → ns ++ ms ≡ [] → (ns ≡ []) × (ms ≡ [])
append-none [] ms e = (refl, e)
append-none (n ∷ ns) ms e = absurd (no n (ns ++ ms) e)
  where
    no : (n : ℕ) (ns : List ℕ) → n ∷ ns ≡ [] → ⊥
    no n ns e = cc

same-orders : (n : ℕ) (os live : List Shown) → Rises 0 os → AllByRecursion (IsUnder n) os → by_stock n os ≡ live → (least (odd_of os live) ≡ None) × (is_grouped None live ≡ true)
same-orders n os live r u e = subst (λ (v : List Shown). (least (odd_of os v) ≡ None) × (is_grouped None v ≡ true)) e (none, grouped)
  where
    here : AllByRecursion (StandsIn (by_stock n os)) os
    here = both-all (IsUnder n) (StandsIn os) (StandsIn (by_stock n os)) os (λ o h s. stands-by_stock n os o h s) u (all-stand os)

    there : AllByRecursion (StandsIn os) (by_stock n os)
    there = all-by_stock (StandsIn os) n os (all-stand os)

    none : least (odd_of os (by_stock n os)) ≡ None
    none = rw (none-odd (by_stock n os) os here, none-odd os (by_stock n os) there) refl

    all_follow : (os : List Shown) → AllByRecursion (λ (o : Shown). follows None o ≡ true) os
    all_follow [] = tt
    all_follow (o ∷ os) = (refl, all_follow os)

    grouped : is_grouped None (by_stock n os) ≡ true
    grouped = test-grouped None (by_stock n os) (grouped-by_stock 0 n os r) (all_follow (by_stock n os))

orders-same : (n : ℕ) (os live : List Shown) → Rises 0 os → AllByRecursion (IsUnder n) os → least (odd_of os live) ≡ None → is_grouped None live ≡ true → by_stock n os ≡ live
orders-same n os live r u e g =
    let nones = append-none (odd_in live os) (odd_in os live) (least-none (odd_of os live) e) in
    let here = odd-none live os nones.0 in
    let there = odd-none os live nones.1 in
    same-grouped (by_stock n os) live (grouped-by_stock 0 n os r) (grouped-test None live g) (all-by_stock (StandsIn live) n os here)
    (all-weaker (StandsIn os) (StandsIn (by_stock n os)) live (λ o s. stands-by_stock n os o (stands-under n os o u s) s) there)

kept-under : (n : ℕ) (es : List Entry) → AllByRecursion (λ (e : Entry). e.order.stock < n) es → AllByRecursion (IsUnder n) (kept es)
kept-under n [] a = tt
kept-under n (e ∷ es) a =
    let rest = kept-under n es a.1 in
    elim e.gone as (λ g. AllByRecursion (IsUnder n) (cond g (kept es) (e.order ∷ kept es))) [ true ↦ rest | false ↦ (a.0, rest) ]

settle-by : (same grouped : Bool) (x : Option ℕ) → (same ≡ true → (x ≡ None) × (grouped ≡ true)) → (x ≡ None → grouped ≡ true → same ≡ true) → settled x grouped ≡ cond same None (Some (or_zero x))
settle-by true true None f b = refl
settle-by true false None f b = absurd (no (f refl).1)
  where
    no : false ≡ true → ⊥
    no e = cc
settle-by true g (Some n) f b = absurd (no n (f refl).0)
  where
    no : (n : ℕ) → Some n ≡ None → ⊥
    no n e = cc
settle-by false true None f b = absurd (no (b refl refl))
  where
    no : false ≡ true → ⊥
    no e = cc
settle-by false false None f b = refl
settle-by false g (Some n) f b = refl

pub settled-is : (n : ℕ) (es : List Entry) (live : List Shown) → IsRising 0 es → AllByRecursion (λ (e : Entry). e.order.stock < n) es
    → settled (least (odd_of (kept es) live)) (is_grouped None live) ≡ order_difference n (kept es) live
settled-is n es live r a =
    let os = kept es in
    let d = pointwise_decides same-decides (by_stock n os) live in
    settle-by (pointwise is_same (by_stock n os) live) (is_grouped None live) (least (odd_of os live))
    (λ t. same-orders n os live (kept-rises 0 es r) (kept-under n es a) (d.0 t))
    (λ e g. d.1 (orders-same n os live (kept-rises 0 es r) (kept-under n es a) e g))

pub settled-none : (x : Option ℕ) (g : Bool) → settled x g ≡ None → x ≡ None
settled-none None g e = refl
settled-none (Some n) g e = absurd (no n e)
  where
    no : (n : ℕ) → Some n ≡ None → ⊥
    no n e = cc
