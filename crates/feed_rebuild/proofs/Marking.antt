-- Lemmas on marks, and on the least odd reference.
use Rattle.std.proofs.Common.{◌≡◌, ◌≢◌, ℕ, ◌+◌, ◌<◌, ◌≤◌, zero, suc, Bool, true, false, cond, ◌||◌, List, [], ◌∷◌, ◌++◌, Option, Some, None, length, get_or, set, map, replicate, refl, sym, ap, ◌∙◌, arith}
use Rattle.std.specs.Prelude.{option_map}
use Rattle.std.specs.List.{AllByRecursion, filter, find, list_any}
use Rattle.feed_rebuild.specs.declared.entries.Entry.{Entry}
use Rattle.feed_rebuild.specs.declared.shown.Shown.{Shown}
use Rattle.feed_rebuild.specs.Compared.{first_odd, is_among, is_odd_in, is_same, least, lesser, odd_in}
use Rattle.feed_rebuild.specs.Entries.{kept, vacant, IsRising}
use Rattle.feed_rebuild.proofs.Places.{rising-apart, rising-at}
use Rattle.feed_rebuild.proofs.Sames.{apart-differ, differ, same-true, same-turned}

-- one more element of a list
any-here : (p : Shown → Bool) (w : List Shown) (o : Shown) → p o ≡ true → list_any p (w ++ o ∷ []) ≡ true
any-here p [] o t = rw t refl
any-here p (x ∷ w) o t =
    let rest = any-here p w o t in
    elim (p x) as (λ b. (b || list_any p (w ++ o ∷ [])) ≡ true) [ true ↦ refl | false ↦ rest ]

any-not_here : (p : Shown → Bool) (w : List Shown) (o : Shown) → p o ≡ false → list_any p (w ++ o ∷ []) ≡ list_any p w
any-not_here p [] o t = rw t refl
any-not_here p (x ∷ w) o t = ap (λ b. p x || b) (any-not_here p w o t)

abbrev stands : List Shown → Entry → Bool
stands live e = is_among live e.order

pub none-marked : (es : List Entry) → replicate (length es) false ≡ map (stands []) es
none-marked [] = refl
none-marked (e ∷ es) = ap (λ v. false ∷ v) (none-marked es)

pub mark-none : (live : List Shown) (o : Shown) (es : List Entry) → AllByRecursion (λ (e : Entry). is_same o e.order ≡ false) es → map (stands live) es ≡ map (stands (live ++ o ∷ [])) es
mark-none live o [] a = refl
mark-none live o (e ∷ es) a =
    let head = any-not_here (is_same e.order) live o (same-turned e.order o ∙ a.0) in
    let rest = mark-none live o es a.1 in
    λ i. sym head i ∷ rest i

pub mark-one : (low p : ℕ) (live : List Shown) (o : Shown) (es : List Entry) → IsRising low es → p < length es → is_same o (get_or es p vacant).order ≡ true
    → set (map (stands live) es) p true ≡ map (stands (live ++ o ∷ [])) es
mark-one low p live o [] r h t = absurd (omega arith)
mark-one low zero live o (e ∷ es) r h t =
    let q = ap (λ (x : Shown). x.reference) (same-true o e.order t) in
    let head = any-here (is_same e.order) live o (same-turned e.order o ∙ t) in
    let rest = mark-none live o es (apart-differ o es (rising-apart (e.order.reference + 1) o.reference es r.1 (omega (arith, q)))) in
    λ i. sym head i ∷ rest i
mark-one low (suc p) live o (e ∷ es) r h t =
    let q = ap (λ (x : Shown). x.reference) (same-true o (get_or es p vacant).order t) in
    let n : e.order.reference ≢ o.reference = λ s. omega (arith, s, q, rising-at (e.order.reference + 1) es p vacant r.1 (omega arith)) in
    let head = any-not_here (is_same e.order) live o (same-turned e.order o ∙ differ o e.order n) in
    let rest = mark-one (e.order.reference + 1) p live o es r.1 (omega arith) t in
    λ i. sym head i ∷ rest i

-- references of orders rise, from a least one on
abbrev pub Rises : ℕ → List Shown → Type 0
Rises low [] = Unit {0}
Rises low (o ∷ os) = (low ≤ o.reference) × Rises (o.reference + 1) os

rises-weaker : (a b : ℕ) (os : List Shown) → a ≤ b → Rises b os → Rises a os
rises-weaker a b [] h r = tt
rises-weaker a b (o ∷ os) h r = (omega (arith, r.0), r.1)

pub kept-rises : (low : ℕ) (es : List Entry) → IsRising low es → Rises low (kept es)
kept-rises low [] r = tt
kept-rises low (e ∷ es) r =
    let rest = kept-rises (e.order.reference + 1) es r.1 in
    elim e.gone as (λ g. Rises low (cond g (kept es) (e.order ∷ kept es))) [ true ↦ rises-weaker low (e.order.reference + 1) (kept es) (omega (arith, r.0)) rest | false ↦ (r.0, rest) ]

-- the lesser of a number and none below it
lesser-first : (n : ℕ) (x : Option ℕ) → ((m : ℕ) → x ≡ Some m → n ≤ m) → lesser (Some n) x ≡ Some n
lesser-first n None h = refl
lesser-first n (Some m) h = ap Some (omega (arith, h m refl))

none_some : (m : ℕ) → None ≡ Some m → ⊥
none_some m e = cc

-- the least of references that rise is none below the first
least-above : (low : ℕ) (p : Shown → Bool) (os : List Shown) → Rises low os → (m : ℕ) → least (map (λ (o : Shown). o.reference) (filter p os)) ≡ Some m → low ≤ m
least-above low p [] r m = λ e. absurd (none_some m e)
least-above low p (o ∷ os) r m =
    let above = least-above (o.reference + 1) p os r.1 in
    elim (p o) as (λ b. least (map (λ (o : Shown). o.reference) (cond b (o ∷ filter p os) (filter p os))) ≡ Some m → low ≤ m) [
      | true ↦ λ e. omega (arith, r.0, some_same o.reference m (sym (lesser-first o.reference (least (map (λ (o : Shown). o.reference) (filter p os))) (λ k s. omega (arith, above k s))) ∙ e))
      | false ↦ λ e. omega (arith, r.0, above m e)
    ]
  where
    some_same : (a b : ℕ) → Some a ≡ Some b → a ≡ b
    some_same a b e = cc

first-least-of : (low : ℕ) (live os : List Shown) → Rises low os → first_odd live os ≡ least (odd_in live os)
first-least-of low live [] r = refl
first-least-of low live (o ∷ os) r =
    let above = least-above (o.reference + 1) (is_odd_in live) os r.1 in
    let rest = first-least-of (o.reference + 1) live os r.1 in
    let here = lesser-first o.reference (least (odd_in live os)) (λ k s. omega (arith, above k s)) in
    elim (is_odd_in live o) as (λ b. option_map (λ (o : Shown). o.reference) (cond b (Some o) (find (is_odd_in live) os)) ≡ least (map (λ (o : Shown). o.reference) (cond b (o ∷ filter (is_odd_in live) os) (filter (is_odd_in live) os)))) [ true ↦ sym here | false ↦ rest ]

pub first-least : (live : List Shown) (es : List Entry) → IsRising 0 es → first_odd live (kept es) ≡ least (odd_in live (kept es))
first-least live es r = first-least-of 0 live (kept es) (kept-rises 0 es r)

lesser-joins : (a b c : Option ℕ) → lesser (lesser a b) c ≡ lesser a (lesser b c)
lesser-joins None b c = refl
lesser-joins (Some a) None c = refl
lesser-joins (Some a) (Some b) None = refl
lesser-joins (Some a) (Some b) (Some c) = ap Some (omega arith)

pub least-append : (ns ms : List ℕ) → least (ns ++ ms) ≡ lesser (least ns) (least ms)
least-append [] ms = refl
least-append (n ∷ ns) ms = ap (lesser (Some n)) (least-append ns ms) ∙ sym (lesser-joins (Some n) (least ns) (least ms))
