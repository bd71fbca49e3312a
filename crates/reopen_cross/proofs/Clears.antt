-- Why no price executes more shares than the chosen one, and why its certificate shows it.
use Rattle.std.proofs.Common.{◌≡◌, ◌≢◌, ◌⊎◌, ◌≤◌, ◌<◌, ℕ, zero, suc, ◌+◌, ◌-◌, min, Bool, true, false, cond, ltb, leb, eqb, List, [], ◌∷◌, Option, Some, None, IfSome, option_map, All, length, get_or, refl, sym, ap, ◌∙◌, subst, inl, inr, arith, sum_by, filter, map}
use Rattle.std.specs.Prelude.{◌&&◌, ◌||◌}
use Rattle.std.specs.Cmp.{IsStrictWeakOrder}
use Rattle.std.specs.List.{AllByRecursion, best_of}
use Rattle.std.proofs.lemmas.Bool.{cases_Bool, cases_eq, eq-eqb, ne_eqb}
use Rattle.std.proofs.lemmas.Bool.Decides.{nat_tests}
use Rattle.std.proofs.lemmas.List.Elements.{All-from_get_or, All-weaker, recursion_from_All}
use Rattle.std.proofs.lemmas.List.MinMax.{IsFirstBest-from_best_of}
use Rattle.std.proofs.lemmas.List.Sums.{sum_by-cons}
use Rattle.market_types.specs.declared.order.Side.TheVariants.{Buy, Sell}
use Rattle.market_types.specs.Sides.{is_same_side}
use Rattle.market_types.specs.Limits.{highest_price}
use Rattle.reopen_cross.specs.declared.cross.Cross.{Cross}
use Rattle.reopen_cross.specs.declared.cross.Interest.{Interest}
use Rattle.reopen_cross.specs.Cross.{buys, sells, executed, surplus, is_better, first_beyond, best_price, cross_at, cross_of, cross_where}
use Rattle.reopen_cross.specs.Clearing.{IsClearing}
use Rattle.reopen_cross.specs.declared.tallies.Tally.{Tally}
use Rattle.reopen_cross.specs.Tallies.{tally_of}
use Rattle.reopen_cross.specs.Orderly.{AreInterests}
use Rattle.reopen_cross.specs.Parts.{takes_part}
use Rattle.reopen_cross.proofs.Filled.{rising-filter, shorter-filter, total-filled}
use Rattle.reopen_cross.proofs.Sums.{buys-fall, sells-rise}

abbrev left-of : Interest → ℕ
left-of o = o.left

-- what holds at the price of each order to sell
abbrev AtSells : (ℕ → Type 0) → List Interest → Type 0
AtSells P os = AllByRecursion (λ (o : Interest). is_same_side o.side Sell ≡ true → P o.price) os

same-filter : (a b : Bool) (o : Interest) (xs ys : List Interest) → a ≡ b → sum_by left-of xs ≡ sum_by left-of ys → sum_by left-of (cond a (o ∷ xs) xs) ≡ sum_by left-of (cond b (o ∷ ys) ys)
same-filter true true o xs ys e h = omega (arith, h, sum_by-cons left-of o xs, sum_by-cons left-of o ys)
same-filter true false o xs ys e h = absurd (cc e)
same-filter false true o xs ys e h = absurd (cc e)
same-filter false false o xs ys e h = h

both-same : (a b c : Bool) → (a ≡ true → b ≡ c) → (a && b) ≡ (a && c)
both-same true b c i = i refl
both-same false b c i = refl

leb-step : (n p : ℕ) → n ≢ suc p → leb n (suc p) ≡ leb n p
leb-step n p h = grind (arith, nat_tests)

leb-zero : (n : ℕ) → n ≢ 0 → leb n 0 ≡ false
leb-zero n h = grind (arith, nat_tests)

-- no more shares are to be sold one price up, where what holds at each order's price doesn't hold there
sells-step : (P : ℕ → Type 0) (os : List Interest) (p : ℕ) → AtSells P os → P (suc p) ⊎ (sells os (suc p) ≡ sells os p)
sells-step P [] p h = inr refl
sells-step P (o ∷ os) p h =
    elim (cases_Bool (is_same_side o.side Sell)) [
      | inl s ↦ (elim (cases_eq o.price (suc p)) [
        | inl e ↦ inl (subst P e (h.0 s))
        | inr n ↦ again (sells-step P os p h.1) (both-same (is_same_side o.side Sell) _ _ (λ _. leb-step o.price p n))
      ])
      | inr s ↦ again (sells-step P os p h.1) (both-same (is_same_side o.side Sell) _ _ (λ t. absurd (cc (s, t))))
    ]
  where
    again : P (suc p) ⊎ (sells os (suc p) ≡ sells os p) → (is_same_side o.side Sell && leb o.price (suc p)) ≡ (is_same_side o.side Sell && leb o.price p) → P (suc p) ⊎ (sells (o ∷ os) (suc p) ≡ sells (o ∷ os) p)
    again (inl q) e = inl q
    again (inr q) e = inr (same-filter _ _ o _ _ e q)

sells-zero : (P : ℕ → Type 0) (os : List Interest) → AtSells P os → P 0 ⊎ (sells os 0 ≡ 0)
sells-zero P [] h = inr refl
sells-zero P (o ∷ os) h =
    elim (cases_Bool (is_same_side o.side Sell)) [
      | inl s ↦ (elim (cases_eq o.price 0) [
        | inl e ↦ inl (subst P e (h.0 s))
        | inr n ↦ again (sells-zero P os h.1) (both-same (is_same_side o.side Sell) _ false (λ _. leb-zero o.price n) ∙ never (is_same_side o.side Sell))
      ])
      | inr s ↦ again (sells-zero P os h.1) (ap (λ b. b && leb o.price 0) s)
    ]
  where
    never : (b : Bool) → (b && false) ≡ false
    never true = refl
    never false = refl

    again : P 0 ⊎ (sells os 0 ≡ 0) → (is_same_side o.side Sell && leb o.price 0) ≡ false → P 0 ⊎ (sells (o ∷ os) 0 ≡ 0)
    again (inl q) e = inl q
    again (inr q) e = inr (ap (λ b. sum_by left-of (cond b (o ∷ filter (λ (x : Interest). is_same_side x.side Sell && leb x.price 0) os) (filter (λ (x : Interest). is_same_side x.side Sell && leb x.price 0) os))) e ∙ q)

-- ---- the most that trades
any-seller : (P : ℕ → Type 0) (os : List Interest) → AllByRecursion (λ (o : Interest). P o.price) os → AtSells P os
any-seller P [] h = tt
any-seller P (o ∷ os) h = ((λ _. h.0), any-seller P os h.1)

-- what trades at no order's price doesn't trade at any price
pub executed-most : (list : List Interest) (m : ℕ) → AllByRecursion (λ (o : Interest). executed list o.price ≤ m) list → (p : ℕ) → executed list p ≤ m
executed-most list m h zero =
    elim (sells-zero (λ p. executed list p ≤ m) list (any-seller _ list h)) [
      | inl q ↦ q
      | inr q ↦ omega (arith, q)
    ]
executed-most list m h (suc p) =
    elim (sells-step (λ p. executed list p ≤ m) list p (any-seller _ list h)) [
      | inl q ↦ q
      | inr q ↦ omega (arith, q, executed-most list m h p, buys-fall list p (suc p) (omega arith))
    ]

-- ---- the order of the prices
one-way : (list : List Interest) (p q : ℕ) → is_better list p q ≡ true → is_better list q p ≡ false
one-way list p q h = way (executed list p) (executed list q) (surplus list p) (surplus list q) p q h
  where
    way : (e f s t p q : ℕ) → (ltb f e || (eqb f e && (ltb s t || (eqb s t && ltb p q)))) ≡ true → (ltb e f || (eqb e f && (ltb t s || (eqb t s && ltb q p)))) ≡ false
    way e f s t p q h = grind (arith, nat_tests)

no-better : (list : List Interest) (p q r : ℕ) → is_better list p q ≡ false → is_better list q r ≡ false → is_better list p r ≡ false
no-better list p q r h k = way (executed list p) (executed list q) (executed list r) (surplus list p) (surplus list q) (surplus list r) p q r h k
  where
    way : (e f g s t u p q r : ℕ) → (ltb f e || (eqb f e && (ltb s t || (eqb s t && ltb p q)))) ≡ false → (ltb g f || (eqb g f && (ltb t u || (eqb t u && ltb q r)))) ≡ false → (ltb g e || (eqb g e && (ltb s u || (eqb s u && ltb p r)))) ≡ false
    way e f g s t u p q r h k = grind (arith, nat_tests)

strict : (list : List Interest) → IsStrictWeakOrder (is_better list)
strict list = record { one_way = one-way list; chain = no-better list }

-- what is no better executes no more
no-more : (list : List Interest) (p q : ℕ) → is_better list p q ≡ false → executed list p ≤ executed list q
no-more list p q h = way (executed list p) (executed list q) (ltb (surplus list p) (surplus list q) || (eqb (surplus list p) (surplus list q) && ltb p q)) h
  where
    way : (e f : ℕ) (b : Bool) → (ltb f e || (eqb f e && b)) ≡ false → e ≤ f
    way e f b h = grind (arith, nat_tests)

none-beats : (list : List Interest) (a : ℕ) (w : List ℕ) → All (λ x. is_better list x (best_of (is_better list) a w) ≡ false) (a ∷ w)
none-beats list a w =
    let r = IsFirstBest-from_best_of (strict list) a w in
    All-from_get_or (λ x. is_better list x (best_of (is_better list) a w) ≡ false) (a ∷ w) a (λ i h. subst (λ b. is_better list (get_or (a ∷ w) i a) b ≡ false) r.2 (r.1.1 i a h))

abbrev price-of : Interest → ℕ
price-of o = o.price

unmapped : (P : ℕ → Type 0) (os : List Interest) → AllByRecursion P (map price-of os) → AllByRecursion (λ (o : Interest). P o.price) os
unmapped P [] h = tt
unmapped P (o ∷ os) h = (h.0, unmapped P os h.1)

-- at no order's price more shares trade than at the best
pub best-most : (list ws : List Interest) (p : ℕ) → best_price list ws ≡ Some p → AllByRecursion (λ (o : Interest). executed list o.price ≤ executed list p) ws
best-most list [] p e = tt
best-most list (o ∷ os) p e =
    let b = best_of (is_better list) o.price (map price-of os) in
    let same : b ≡ p = cc e in
    let all : All (λ x. executed list x ≤ executed list b) (o.price ∷ map price-of os) = All-weaker _ _ (λ x h. no-more list x b h) (o.price ∷ map price-of os) (none-beats list o.price (map price-of os)) in
    subst (λ m. AllByRecursion (λ (x : Interest). executed list x.price ≤ executed list m) (o ∷ os)) same (unmapped (λ x. executed list x ≤ executed list b) (o ∷ os) (recursion_from_All _ (o.price ∷ map price-of os) all))

-- ---- the cut
weaker-sells : (P Q : ℕ → Type 0) → ((n : ℕ) → P n → Q n) → (os : List Interest) → AtSells P os → AtSells Q os
weaker-sells P Q i [] h = tt
weaker-sells P Q i (o ∷ os) h = ((λ s. i o.price (h.0 s)), weaker-sells P Q i os h.1)

first-step : (b : Bool) (p r : ℕ) → (cond b (min p r) r ≤ r) × (b ≡ true → cond b (min p r) r ≤ p)
first-step true p r = (omega arith, λ _. omega arith)
first-step false p r = (omega arith, λ h. absurd (cc h))

both-true : (a b : Bool) → a ≡ true → b ≡ true → (a && b) ≡ true
both-true true b h k = k
both-true false b h k = absurd (cc h)

second-true : (a b : Bool) → (a && b) ≡ true → b ≡ true
second-true true b h = h
second-true false b h = absurd (cc h)

lt-test : (a b : ℕ) → a < b → ltb a b ≡ true
lt-test a b h = grind (arith, nat_tests)

test-lt : (a b : ℕ) → ltb a b ≡ true → a < b
test-lt a b h = grind (arith, nat_tests)

-- the first price beyond is above no order's price with more shares to sell up to it
first-least : (list : List Interest) (x : ℕ) (os : List Interest) → AtSells (λ q. x < sells list q → first_beyond list x os ≤ q) os
first-least list x [] = tt
first-least list x (o ∷ os) =
    let step = first-step (is_same_side o.side Sell && ltb x (sells list o.price)) o.price (first_beyond list x os) in
    ((λ s h. step.1 (both-true _ _ s (lt-test x (sells list o.price) h))), weaker-sells _ _ (λ n k h. omega (arith, k h, step.0)) os (first-least list x os))

pub first-within : (list : List Interest) (x : ℕ) (os : List Interest) → first_beyond list x os ≤ highest_price + 1
first-within list x [] = omega arith
first-within list x (o ∷ os) = omega (arith, first-within list x os, (first-step (is_same_side o.side Sell && ltb x (sells list o.price)) o.price (first_beyond list x os)).0)

abbrev IsBeyond : List Interest → ℕ → ℕ → Type 0
IsBeyond list x f = (f ≡ highest_price + 1) ⊎ (x < sells list f)

least-of : (P : ℕ → Type 0) (b : Bool) (p r : ℕ) → (b ≡ true → P p) → P r → P (cond b (min p r) r)
least-of P true p r h k =
    elim (cases_Bool (leb p r)) [
      | inl t ↦ subst P (lower p r t) (h refl)
      | inr t ↦ subst P (upper p r t) k
    ]
  where
    lower : (p r : ℕ) → leb p r ≡ true → p ≡ min p r
    lower p r t = grind (arith, nat_tests)

    upper : (p r : ℕ) → leb p r ≡ false → r ≡ min p r
    upper p r t = grind (arith, nat_tests)
least-of P false p r h k = k

first-beyond-all : (list : List Interest) (x : ℕ) (os : List Interest) → IsBeyond list x (first_beyond list x os)
first-beyond-all list x [] = inl refl
first-beyond-all list x (o ∷ os) = least-of (IsBeyond list x) _ o.price (first_beyond list x os) (λ t. inr (test-lt x (sells list o.price) (second-true _ _ t))) (first-beyond-all list x os)

pub first-positive : (list : List Interest) (x : ℕ) (os : List Interest) → AllByRecursion (λ (o : Interest). 1 ≤ o.price) os → 1 ≤ first_beyond list x os
first-positive list x [] h = omega arith
first-positive list x (o ∷ os) h = least-of (λ n. 1 ≤ n) _ o.price (first_beyond list x os) (λ _. h.0) (first-positive list x os h.1)

turned : (f s x q : ℕ) → (x < s → f ≤ q) → q < f → s ≤ x
turned f s x q h b =
    elim (cases_Bool (ltb x s)) [
      | inl t ↦ absurd (omega (arith, h (test-lt x s t), b))
      | inr t ↦ not-lt x s t
    ]
  where
    not-lt : (a b : ℕ) → ltb a b ≡ false → b ≤ a
    not-lt a b t = grind (arith, nat_tests)

-- below the first price beyond no more shares are to be sold
pub under-first : (list : List Interest) (x n : ℕ) → n < first_beyond list x list → sells list n ≤ x
under-first list x n h = at n h
  where
    P : ℕ → Type 0
    P q = q < first_beyond list x list → sells list q ≤ x

    all : AtSells P list
    all = weaker-sells _ P (λ q k b. turned (first_beyond list x list) (sells list q) x q k b) list (first-least list x list)

    at : (n : ℕ) → P n
    at zero = elim (sells-zero P list all) [ inl q ↦ q | inr q ↦ (λ _. omega (arith, q)) ]
    at (suc n) = elim (sells-step P list n all) [ inl q ↦ q | inr q ↦ (λ h. omega (arith, q, at n (omega (arith, h)))) ]

not-under : (p m : ℕ) → p ≤ m → leb (m + 1) p ≡ false
not-under p m h = grind (arith, nat_tests)

no-buys : (os : List Interest) (m : ℕ) → AllByRecursion (λ (o : Interest). o.price ≤ m) os → buys os (m + 1) ≡ 0
no-buys [] m h = refl
no-buys (o ∷ os) m h = ap (λ b. sum_by left-of (cond b (o ∷ filter (λ (x : Interest). is_same_side x.side Buy && leb (m + 1) x.price) os) (filter (λ (x : Interest). is_same_side x.side Buy && leb (m + 1) x.price) os))) (never (is_same_side o.side Buy) _ (not-under o.price m h.0)) ∙ no-buys os m h.1
  where
    never : (a b : Bool) → b ≡ false → (a && b) ≡ false
    never true b h = h
    never false b h = refl

-- a cross with the price that it was found at
pub record IsCrossed (list : List Interest) (c : Cross) : Type 0 where
  pub p : ℕ
  pub best : best_price list list ≡ Some p
  pub some : executed list p ≢ 0
  pub is : cross_at list p ≡ c

crossed-at : (list : List Interest) (b : Option ℕ) (c : Cross) → best_price list list ≡ b → cross_where list b ≡ Some c → IsCrossed list c
crossed-at list None c e h = absurd (cc h)
crossed-at list (Some p) c e h =
    elim (cases_eq (executed list p) 0) [
      | inl z ↦ (let t : eqb (executed list p) 0 ≡ true = eq-eqb (executed list p) 0 z in absurd (nothing (subst (λ b. cond b None (Some (cross_at list p)) ≡ Some c) t h)))
      | inr z ↦ (let t : eqb (executed list p) 0 ≡ false = ne_eqb (executed list p) 0 z in record { p = p; best = e; some = z; is = same (subst (λ b. cond b None (Some (cross_at list p)) ≡ Some c) t h) })
    ]
  where
    nothing : None ≡ Some c → ⊥
    nothing h = cc h

    same : Some (cross_at list p) ≡ Some c → cross_at list p ≡ c
    same h = cc h

pub clearing : (list : List Interest) (p : ℕ) → AreInterests list → best_price list list ≡ Some p → IsClearing list (cross_at list p)
clearing list p are best =
    let x = executed list p in
    let f = first_beyond list x list in
    let low : 1 ≤ f = first-positive list x list (recursion_from_All (λ (o : Interest). 1 ≤ o.price) list are.priced) in
    let high : f ≤ highest_price + 1 = first-within list x list in
    let most : (n : ℕ) → executed list n ≤ x = executed-most list x (best-most list list p best) in
    let under : sells list (f - 1) ≤ x = under-first list x (f - 1) (omega (arith, low)) in
    let same : f - 1 + 1 ≡ f = omega (arith, low) in
    let none : buys list (highest_price + 1) ≡ 0 = no-buys list highest_price (recursion_from_All (λ (o : Interest). o.price ≤ highest_price) list are.within) in
    let beyond : buys list f ≤ x = elim (first-beyond-all list x list) [
      | inl e ↦ subst (λ n. buys list n ≤ x) (sym e) (omega (arith, none))
      | inr e ↦ omega (arith, e, most f)
    ] in
    record {
      most = λ n _ _. most n;
      here = refl;
      cut = omega (arith, high);
      greatest = λ n w h. greatest n w h (first-beyond-all list x list);
      below_is = refl;
      above_is = refl;
      below = under;
      above = subst (λ n. buys list n ≤ x) (sym same) beyond;
      up_to = λ n h. omega (arith, sells-rise list n (f - 1) h);
      beyond = λ n h. omega (arith, buys-fall list (f - 1 + 1) n (omega (arith, h)));
      bought = total-filled (length list) Buy x (filter (takes_part Buy p) list) (shorter-filter (takes_part Buy p) list) (rising-filter (takes_part Buy p) list are.rising) (omega arith);
      sold = total-filled (length list) Sell x (filter (takes_part Sell p) list) (shorter-filter (takes_part Sell p) list) (rising-filter (takes_part Sell p) list are.rising) (omega arith);
    }
  where
    leb-le : (a b : ℕ) → leb a b ≡ true → a ≤ b
    leb-le a b t = grind (arith, nat_tests)

    not-leb : (a b : ℕ) → leb a b ≡ false → b < a
    not-leb a b t = grind (arith, nat_tests)

    turned-back : (f n : ℕ) → (f ≤ n → sells list f ≤ sells list n) → sells list n ≤ executed list p → executed list p < sells list f → n < f
    turned-back f n rise h e =
        elim (cases_Bool (leb f n)) [
          | inl t ↦ absurd (omega (arith, rise (leb-le f n t), h, e))
          | inr t ↦ not-leb f n t
        ]

    greatest : (n : ℕ) → n ≤ highest_price → sells list n ≤ executed list p → IsBeyond list (executed list p) (first_beyond list (executed list p) list) → n ≤ first_beyond list (executed list p) list - 1
    greatest n w h (inl e) = omega (arith, e, w)
    greatest n w h (inr e) = omega (arith, e, h, turned-back (first_beyond list (executed list p) list) n (sells-rise list (first_beyond list (executed list p) list) n) h e)

pub crosses-clear : (list : List Interest) (c : Cross) → AreInterests list → cross_of list ≡ Some c → IsClearing list c
crosses-clear list c are e =
    let x = crossed-at list (best_price list list) c refl e in
    subst (IsClearing list) x.is (clearing list x.p are x.best)

-- every cross that a list has clears
pub clears-all : (list : List Interest) (r : Option Cross) → AreInterests list → r ≡ cross_of list → IfSome r (IsClearing list)
clears-all list None are e = tt
clears-all list (Some c) are e = crosses-clear list c are (sym e)

pub price-found : (list : List Interest) (o : Option ℕ) (t : Tally) → option_map (tally_of list) o ≡ Some t → o ≡ Some t.price
price-found list None t e = absurd (cc e)
price-found list (Some p) t e = ap (λ (n : ℕ). Some n) (ap (λ (u : Tally). u.price) (same e))
  where
    same : Some (tally_of list p) ≡ Some t → tally_of list p ≡ t
    same e = cc e

-- a cross is made of these numbers
pub cross-made : (list : List Interest) (p x b s f low high : ℕ) → x ≡ executed list p → x ≢ 0 → b ≡ buys list p → s ≡ sells list p → f ≡ first_beyond list x list → low ≡ sells list (f - 1) → high ≡ buys list (f - 1 + 1) → (let c : Cross = record { price = p; shares = x; buys = b; sells = s; cut = f - 1; below = low; above = high } in Some c ≡ cross_where list (Some p))
cross-made list p x b s f low high ex nx eb es ef el eh =
    let t : eqb (executed list p) 0 ≡ false = ne_eqb (executed list p) 0 (λ z. nx (ex ∙ z)) in
    let el' : low ≡ sells list (first_beyond list x list - 1) = el ∙ ap (λ n. sells list (n - 1)) ef in
    let eh' : high ≡ buys list (first_beyond list x list - 1 + 1) = eh ∙ ap (λ n. buys list (n - 1 + 1)) ef in
    made b s f low high eb es ef el' eh' ∙ ap whole ex ∙ ap (λ v. cond v None (Some (cross_at list p))) (sym t)
  where
    whole : ℕ → Option Cross
    whole n = let c : Cross = record { price = p; shares = n; buys = buys list p; sells = sells list p; cut = first_beyond list n list - 1; below = sells list (first_beyond list n list - 1); above = buys list (first_beyond list n list - 1 + 1) } in Some c

    made : (b s f low high : ℕ) → b ≡ buys list p → s ≡ sells list p → f ≡ first_beyond list x list → low ≡ sells list (first_beyond list x list - 1) → high ≡ buys list (first_beyond list x list - 1 + 1) → (let c : Cross = record { price = p; shares = x; buys = b; sells = s; cut = f - 1; below = low; above = high } in Some c ≡ whole x)
    made b s f low high eb es ef el eh = cc

-- ---- where nothing crosses
none-at : (list : List Interest) (b : Option ℕ) → best_price list list ≡ b → cross_where list b ≡ None → (p : ℕ) → executed list p ≡ 0
none-at list None e h p = least (executed-most list 0 (empty list e) p)
  where
    empty : (w : List Interest) → best_price list w ≡ None → AllByRecursion (λ (o : Interest). executed list o.price ≤ 0) w
    empty [] e = tt
    empty (o ∷ w) e = absurd (cc e)

    least : executed list p ≤ 0 → executed list p ≡ 0
    least k = omega (arith, k)
none-at list (Some q) e h p =
    elim (cases_eq (executed list q) 0) [
      | inl z ↦ (let k = executed-most list (executed list q) (best-most list list q e) p in omega (arith, k, z))
      | inr z ↦ (let t : eqb (executed list q) 0 ≡ false = ne_eqb (executed list q) 0 z in absurd (some (subst (λ b. cond b None (Some (cross_at list q)) ≡ None) t h)))
    ]
  where
    some : Some (cross_at list q) ≡ None → ⊥
    some h = cc h

pub none-crosses : (list : List Interest) (p : ℕ) → cross_of list ≡ None → executed list p ≡ 0
none-crosses list p e = none-at list (best_price list list) refl e p

pub some-trade : (list : List Interest) (c : Cross) → cross_of list ≡ Some c → 1 ≤ executed list c.price
some-trade list c e =
    let x = crossed-at list (best_price list list) c refl e in
    subst (λ (d : Cross). 1 ≤ executed list d.price) x.is (omega (arith, x.some))
