-- The first order of a queue, by the levels.
use Rattle.std.proofs.Common.{◌≡◌, ◌≢◌, ◌⊎◌, ℕ, ◌+◌, ◌-◌, ◌*◌, ◌<◌, ◌≤◌, Bool, true, false, cond, ◌&&◌, ltb, eqb, List, [], ◌∷◌, Some, None, length, get_or, set, refl, sym, ap, ◌∙◌, arith, inl, inr, suc, zero, subst, filter, sum_by, Contains, option_map}
use Rattle.std.specs.List.{AllByRecursion, best_of}
use Rattle.std.proofs.lemmas.Bool.{cases_Bool, cases_eq, eq-eqb, ne_eqb}
use Rattle.std.proofs.lemmas.Bool.Decides.{nat_tests}
use Rattle.std.proofs.lemmas.List.{get_or-map, length-map}
use Rattle.std.proofs.lemmas.List.Sums.{sum_by-cons}
use Rattle.market_types.specs.declared.order.Side.{Side}
use Rattle.market_types.specs.declared.order.Side.TheVariants.{Buy, Sell}
use Rattle.price_time_book.specs.declared.resting.Best.{Best}
use Rattle.price_time_book.specs.declared.resting.Resting.{Resting}
use Rattle.price_time_book.specs.declared.levels.Level.{Level}
use Rattle.price_time_book.specs.declared.levels.Queue.{Queue}
use Rattle.price_time_book.specs.Indexed.{bit, hidden_bit, key, key_of, open_orders, prices, shares_by, IsImproving, IsNoBetter, nothing, IsOpenAt, IsClear, IsRight, IsIndexed}
use Rattle.price_time_book.specs.Next.{beats, first_best}
use Rattle.price_time_book.specs.Queues.{best_in, is_in, is_kind, queue_of, shares_in, top_in}
use Rattle.price_time_book.specs.Orderly.{IsRising}
use Rattle.price_time_book.specs.Orders.{changed, with_order, without}
use Rattle.price_time_book.specs.Sides.{is_better, is_on, is_same_side}
use Rattle.price_time_book.proofs.Changes.{keep_all, leave_all}
use Rattle.price_time_book.proofs.Joins.{key_price}
use Rattle.price_time_book.proofs.Lowers.{open_each}
use Rattle.price_time_book.proofs.Prices.{rising_top}
use Rattle.price_time_book.proofs.Ranks.{beats_same}

-- ---- sides
pub side_same : (a s : Side) → is_same_side a s ≡ true → a ≡ s
side_same Buy Buy e = refl
side_same Buy Sell e = absurd (cc e)
side_same Sell Buy e = absurd (cc e)
side_same Sell Sell e = refl

pub same_itself : (s : Side) → is_same_side s s ≡ true
same_itself Buy = refl
same_itself Sell = refl

keys_same : (q p r : ℕ) → eqb q p ≡ eqb (4 * q + r) (4 * p + r)
keys_same q p r = grind (arith, nat_tests)

keys_other : (q p r t : ℕ) → r ≢ t → r ≤ 3 → t ≤ 3 → false ≡ eqb (4 * q + r) (4 * p + t)
keys_other q p r t n h k = let apart : 4 * q + r ≢ 4 * p + t = (λ e. omega (arith, n, h, k, e)) in sym (ne_eqb (4 * q + r) (4 * p + t) apart)

same_parts : (a s : Side) (x y : Bool) (q p : ℕ) → ((is_same_side a s && is_kind y x) && eqb q p) ≡ eqb (4 * q + (2 * bit a + hidden_bit x)) (4 * p + (2 * bit s + hidden_bit y))
same_parts Buy Buy true true q p = keys_same q p 0
same_parts Buy Buy true false q p = keys_other q p 0 1 (omega arith) (omega arith) (omega arith)
same_parts Buy Buy false true q p = keys_other q p 1 0 (omega arith) (omega arith) (omega arith)
same_parts Buy Buy false false q p = keys_same q p 1
same_parts Buy Sell true true q p = keys_other q p 0 2 (omega arith) (omega arith) (omega arith)
same_parts Buy Sell true false q p = keys_other q p 0 3 (omega arith) (omega arith) (omega arith)
same_parts Buy Sell false true q p = keys_other q p 1 2 (omega arith) (omega arith) (omega arith)
same_parts Buy Sell false false q p = keys_other q p 1 3 (omega arith) (omega arith) (omega arith)
same_parts Sell Buy true true q p = keys_other q p 2 0 (omega arith) (omega arith) (omega arith)
same_parts Sell Buy true false q p = keys_other q p 2 1 (omega arith) (omega arith) (omega arith)
same_parts Sell Buy false true q p = keys_other q p 3 0 (omega arith) (omega arith) (omega arith)
same_parts Sell Buy false false q p = keys_other q p 3 1 (omega arith) (omega arith) (omega arith)
same_parts Sell Sell true true q p = keys_same q p 2
same_parts Sell Sell true false q p = keys_other q p 2 3 (omega arith) (omega arith) (omega arith)
same_parts Sell Sell false true q p = keys_other q p 3 2 (omega arith) (omega arith) (omega arith)
same_parts Sell Sell false false q p = keys_same q p 3

same_key : (q : Queue) (p : ℕ) (o : Resting) → (is_in q o && eqb o.price p) ≡ eqb (key_of o) (key q p)
same_key q p o = same_parts o.side q.side o.shown q.shown o.price p

-- ---- queues
and_first : (a b : Bool) → (a && b) ≡ true → a ≡ true
and_first true b e = refl
and_first false b e = e

and_last : (a b : Bool) → (a && b) ≡ true → b ≡ true
and_last true b e = e
and_last false b e = absurd (cc e)

kind_same : (y x : Bool) → is_kind y x ≡ true → x ≡ y
kind_same true x e = e
kind_same false true e = absurd (cc e)
kind_same false false e = refl

-- an order is in its queue alone
pub in_queue : (q : Queue) (o : Resting) → is_in q o ≡ true → queue_of o ≡ q
in_queue q o e =
    let side = side_same o.side q.side (and_first (is_on q.side o) (is_kind q.shown o.shown) e) in
    let shown = kind_same q.shown o.shown (and_last (is_on q.side o) (is_kind q.shown o.shown) e) in
    λ i. record { side = side i; shown = shown i }

key_in : (q : Queue) (p : ℕ) (o : Resting) → key_of o ≡ key q p → is_in q o ≡ true
key_in q p o e = and_first (is_in q o) (eqb o.price p) (same_key q p o ∙ eq-eqb (key_of o) (key q p) e)

pub key_queue : (q : Queue) (p : ℕ) (o : Resting) → key_of o ≡ key q p → queue_of o ≡ q
key_queue q p o e = in_queue q o (key_in q p o e)

key_is : (q : Queue) (p : ℕ) (o : Resting) → key_of o ≡ key q p → o.price ≡ p
key_is q p o e = key_price q o.price p (ap (λ r. key r o.price) (sym (key_queue q p o e)) ∙ e)

pub key_at : (q : Queue) (o : Resting) → queue_of o ≡ q → key_of o ≡ key q o.price
key_at q o e = ap (λ r. key r o.price) e

-- ---- shares
one_more : (b : Bool) (n : ℕ) (v : List Resting) (o : Resting) → n ≡ sum_by (λ (x : Resting). x.left) v → cond b o.left 0 + n ≡ sum_by (λ (x : Resting). x.left) (cond b (o ∷ v) v)
one_more true n v o e = omega (arith, e, sum_by-cons (λ (x : Resting). x.left) o v)
one_more false n v o e = omega (arith, e)

pub shares_is : (q : Queue) (p : ℕ) (w : List Resting) → shares_by (key q p) w ≡ shares_in q p w
shares_is q p [] = refl
shares_is q p (o ∷ w) =
    let v = filter (λ (x : Resting). is_in q x && eqb x.price p) w in
    subst (λ b. cond b o.left 0 + shares_by (key q p) w ≡ sum_by (λ (x : Resting). x.left) (cond (is_in q o && eqb o.price p) (o ∷ v) v)) (same_key q p o) (one_more (is_in q o && eqb o.price p) (shares_by (key q p) w) v o (shares_is q p w))

-- ---- the best of a list
best_stays : (beats : Resting → Resting → Bool) (a : Resting) (w : List Resting) → AllByRecursion (λ (x : Resting). beats x a ≡ false) w → best_of beats a w ≡ a
best_stays beats a [] h = refl
best_stays beats a (x ∷ w) h = ap (λ b. best_of beats (cond b x a) w) h.0 ∙ best_stays beats a w h.1

-- o stands in the list behind worse orders alone, and before none that is better
abbrev Leads : (Resting → Resting → Bool) → Resting → List Resting → Type 0
Leads beats o [] = ⊥
Leads beats o (x ∷ w) = ((x ≡ o) × AllByRecursion (λ (y : Resting). beats y o ≡ false) w) ⊎ ((beats o x ≡ true) × Leads beats o w)

led : (beats : Resting → Resting → Bool) (a o : Resting) (w : List Resting) → beats o a ≡ true → Leads beats o w → best_of beats a w ≡ o
led beats a o [] h l = absurd l
led beats a o (x ∷ w) h (inl (e, all)) =
    let taken : beats x a ≡ true = subst (λ (y : Resting). beats y a ≡ true) (sym e) h in
    ap (λ b. best_of beats (cond b x a) w) taken ∙ ap (λ (y : Resting). best_of beats y w) e ∙ best_stays beats o w all
led beats a o (x ∷ w) h (inr (k, l)) = led beats (cond (beats x a) x a) o w (elim (beats x a) as (λ b. beats o (cond b x a) ≡ true) [ true ↦ k | false ↦ h ]) l

first_led : (s : Side) (o : Resting) (w : List Resting) → Leads (beats s) o w → first_best s w ≡ Some o
first_led s o [] l = absurd l
first_led s o (x ∷ w) (inl (e, all)) = ap (λ (y : Resting). Some y) (ap (λ (y : Resting). best_of (beats s) y w) e ∙ best_stays (beats s) o w all)
first_led s o (x ∷ w) (inr (h, l)) = ap (λ (y : Resting). Some y) (led (beats s) x o w h l)

-- ---- the orders of a queue by their places
pub each_in : (P : Resting → Type 0) (q : Queue) (os : List Resting) → ((k : ℕ) → k < length os → 0 < (get_or os k nothing).left → is_in q (get_or os k nothing) ≡ true → P (get_or os k nothing)) → AllByRecursion P (filter (is_in q) (open_orders os))
each_in P q [] f = tt
each_in P q (o ∷ os) f =
    let rest = each_in P q os (λ k h l e. f (suc k) (omega arith) l e) in
    elim (cases_eq o.left 0) [
      | inl e ↦ (let t : eqb o.left 0 ≡ true = eq-eqb o.left 0 e in rw t rest)
      | inr e ↦ (let t : eqb o.left 0 ≡ false = ne_eqb o.left 0 e in rw t (elim (cases_Bool (is_in q o)) [
        | inl on ↦ rw on (f zero (omega arith) (omega (arith, e)) on, rest)
        | inr off ↦ rw off rest
      ]))
    ]

-- what stands at a place is the first of its queue
pub record IsFirstAt (q : Queue) (os : List Resting) (k : ℕ) : Type 0 where
  pub within : k < length os
  pub left : 0 < (get_or os k nothing).left
  pub member : is_in q (get_or os k nothing) ≡ true
  pub before : (j : ℕ) → j < k → 0 < (get_or os j nothing).left → is_in q (get_or os j nothing) ≡ true → beats q.side (get_or os k nothing) (get_or os j nothing) ≡ true
  pub after : (j : ℕ) → k < j → j < length os → 0 < (get_or os j nothing).left → is_in q (get_or os j nothing) ≡ true → beats q.side (get_or os j nothing) (get_or os k nothing) ≡ false

leads_at : (q : Queue) (os : List Resting) (k : ℕ) → IsFirstAt q os k → Leads (beats q.side) (get_or os k nothing) (filter (is_in q) (open_orders os))
leads_at q [] k h = absurd (omega (arith, h.within))
leads_at q (o ∷ os) zero h =
    let t : eqb o.left 0 ≡ false = ne_eqb o.left 0 (omega (arith, h.left)) in
    let on : is_in q o ≡ true = h.member in
    rw t (rw on (inl (refl, each_in (λ (y : Resting). beats q.side y o ≡ false) q os (λ k w l e. h.after (suc k) (omega arith) (omega arith) l e))))
leads_at q (o ∷ os) (suc k) h =
    let rest = leads_at q os k (record {
      within = omega (arith, h.within);
      left = h.left;
      member = h.member;
      before = λ j b l e. h.before (suc j) (omega arith) l e;
      after = λ j b w l e. h.after (suc j) (omega arith) (omega arith) l e;
    }) in
    elim (cases_eq o.left 0) [
      | inl e ↦ (let t : eqb o.left 0 ≡ true = eq-eqb o.left 0 e in rw t rest)
      | inr e ↦ (let t : eqb o.left 0 ≡ false = ne_eqb o.left 0 e in rw t (elim (cases_Bool (is_in q o)) [
        | inl on ↦ rw on (inr (h.before zero (omega arith) (omega (arith, e)) on, rest))
        | inr off ↦ rw off rest
      ]))
    ]

pub top_first : (q : Queue) (os : List Resting) (k : ℕ) → IsFirstAt q os k → top_in q (open_orders os) ≡ Some (get_or os k nothing)
top_first q os k h = first_led q.side (get_or os k nothing) (filter (is_in q) (open_orders os)) (leads_at q os k h)

nobody : (w : List Resting) → AllByRecursion (λ (_ : Resting). ⊥) w → w ≡ []
nobody [] a = refl
nobody (x ∷ w) a = absurd a.0

-- ---- by the levels
-- no price of a level is better than that of l
abbrev pub IsBestLevel : Side → List Level → Level → Type 0
IsBestLevel s ls l = (p : ℕ) → Contains (prices ls) p → is_better s p l.price ≡ false

better_or_same : (s : Side) (a b : ℕ) → is_better s a b ≡ false → a ≢ b → is_better s b a ≡ true
better_or_same Buy a b h n = way a b h n
  where
    way : (a b : ℕ) → ltb b a ≡ false → a ≢ b → ltb a b ≡ true
    way a b h n = grind (arith, nat_tests)
better_or_same Sell a b h n = way a b h n
  where
    way : (a b : ℕ) → ltb a b ≡ false → a ≢ b → ltb b a ≡ true
    way a b h n = grind (arith, nat_tests)

pub first_by_level : (q : Queue) (os : List Resting) (nx : List ℕ) (ls : List Level) (l : Level) (k : ℕ) → IsIndexed q os nx ls → IsBestLevel q.side ls l → IsOpenAt os (key q l.price) k → IsClear os (key q l.price) 0 k → IsFirstAt q os k
first_by_level q os nx ls l k x best o clear =
    let s = q.side in
    let here : is_in q (get_or os k nothing) ≡ true = key_in q l.price (get_or os k nothing) o.price in
    let at : (get_or os k nothing).price ≡ l.price = key_is q l.price (get_or os k nothing) o.price in
    let same : (j : ℕ) → is_in q (get_or os j nothing) ≡ true → (get_or os k nothing).shown ≡ (get_or os j nothing).shown = λ j e.
    ap (λ (r : Queue). r.shown) (in_queue q (get_or os k nothing) here) ∙ sym (ap (λ (r : Queue). r.shown) (in_queue q (get_or os j nothing) e)) in
    let worse : (j : ℕ) → j < length os → 0 < (get_or os j nothing).left → is_in q (get_or os j nothing) ≡ true → is_better s (get_or os j nothing).price l.price ≡ false = λ j w f e.
    best (get_or os j nothing).price (x.covered (get_or os j nothing).price j (record { within = w; left = f; price = key_at q (get_or os j nothing) (in_queue q (get_or os j nothing) e) })) in
    record {
      within = o.within;
      left = o.left;
      member = here;
      before = λ j b f e.
          let w : j < length os = omega (arith, o.within) in
          let other : (get_or os j nothing).price ≢ l.price = λ p. clear.closed j (omega arith) b (record { within = w; left = f; price = key_at q (get_or os j nothing) (in_queue q (get_or os j nothing) e) ∙ ap (key q) p }) in
          beats_same s (get_or os k nothing) (get_or os j nothing) (same j e) ∙ subst (λ p. is_better s p (get_or os j nothing).price ≡ true) (sym at) (better_or_same s (get_or os j nothing).price l.price (worse j w f e) other);
      after = λ j b w f e. beats_same s (get_or os j nothing) (get_or os k nothing) (sym (same j e)) ∙ subst (λ p. is_better s (get_or os j nothing).price p ≡ false) (sym at) (worse j w f e);
    }

-- where a level has shares an order is open
pub record IsFound (os : List Resting) (p : ℕ) : Type 0 where
  pub at : ℕ
  pub open_at : IsOpenAt os p at
  pub clear : IsClear os p 0 at

found_later : (p : ℕ) (o : Resting) (os : List Resting) → (IsOpenAt (o ∷ os) p 0 → ⊥) → IsFound os p → IsFound (o ∷ os) p
found_later p o os n f = record {
  at = suc f.at;
  open_at = record { within = omega (arith, f.open_at.within); left = f.open_at.left; price = f.open_at.price };
  clear = record { closed = closed };
}
  where
    closed : (k : ℕ) → 0 ≤ k → k < suc f.at → IsOpenAt (o ∷ os) p k → ⊥
    closed zero a b q = n q
    closed (suc k) a b q = f.clear.closed k (omega arith) (omega arith) (record { within = omega (arith, q.within); left = q.left; price = q.price })

pub found : (p : ℕ) (os : List Resting) → 0 < shares_by p (open_orders os) → IsFound os p
found p [] h = absurd (omega arith)
found p (o ∷ os) h =
    elim (cases_eq o.left 0) [
      | inl e ↦
          let t : eqb o.left 0 ≡ true = eq-eqb o.left 0 e in
          found_later p o os (λ q. omega (arith, q.left, e)) (found p os (rw t at h))
      | inr e ↦
          let t : eqb o.left 0 ≡ false = ne_eqb o.left 0 e in
          let g = rw t at h in
          elim (cases_eq (key_of o) p) [
            | inl k ↦ record { at = 0; open_at = record { within = omega arith; left = omega (arith, e); price = k }; clear = record { closed = λ j a b q. absurd (omega arith) } }
            | inr k ↦
                let u : eqb (key_of o) p ≡ false = ne_eqb (key_of o) p k in
                let r : 0 < 0 + shares_by p (open_orders os) = rw u at g in
                found_later p o os (λ q. k q.price) (found p os (omega arith))
          ]
    ]

pub best_by_level : (q : Queue) (os : List Resting) (nx : List ℕ) (ls : List Level) (l : Level) → IsIndexed q os nx ls → IsBestLevel q.side ls l → IsRight q os nx l → best_in q (open_orders os) ≡ Some (record { price = l.price; shares = l.shares })
best_by_level q os nx ls l x best r =
    let f = found (key q l.price) os (omega (arith, r.live, r.shares)) in
    let o = get_or os f.at nothing in
    let first = top_first q os f.at (first_by_level q os nx ls l f.at x best f.open_at f.clear) in
    let price : o.price ≡ l.price = key_is q l.price o f.open_at.price in
    let shares : shares_in q l.price (open_orders os) ≡ l.shares = sym (shares_is q l.price (open_orders os)) ∙ sym r.shares in
    ap (option_map (λ (y : Resting). let b : Best = record { price = y.price; shares = shares_in q y.price (open_orders os) } in b)) first
    ∙ ap (λ (p : ℕ). let b : Best = record { price = p; shares = shares_in q p (open_orders os) } in Some b) price
    ∙ ap (λ (n : ℕ). let b : Best = record { price = l.price; shares = n } in Some b) shares

pub top_none : (q : Queue) (os : List Resting) (nx : List ℕ) (ls : List Level) → IsIndexed q os nx ls → length ls ≡ 0 → top_in q (open_orders os) ≡ None
top_none q os nx ls x h =
    ap (first_best q.side) (nobody (filter (is_in q) (open_orders os)) (each_in (λ _. ⊥) q os (λ k w f e. (let c = x.covered (get_or os k nothing).price k (record { within = w; left = f; price = key_at q (get_or os k nothing) (in_queue q (get_or os k nothing) e) }) in absurd (omega (arith, c.1, length-map ls (λ (l : Level). l.price)))))))

level_price : (ls : List Level) (k : ℕ) (l : Level) → k < length ls → l ≡ get_or ls k l → get_or (prices ls) k 0 ≡ l.price
level_price ls k l h e = get_or-map (λ (m : Level). m.price) ls k l 0 h ∙ ap (λ (m : Level). m.price) (sym e)

no_more : (s : Side) (p q : ℕ) → IsNoBetter s p q → is_better s p q ≡ false
no_more Buy p q h = way p q h
  where
    way : (a b : ℕ) → a ≤ b → ltb b a ≡ false
    way a b h = grind (arith, nat_tests)
no_more Sell p q h = way q p h
  where
    way : (a b : ℕ) → a ≤ b → ltb b a ≡ false
    way a b h = grind (arith, nat_tests)

-- the last level is the best
pub best_level_at : (s : Side) (ls : List Level) (at : ℕ) (l : Level) → IsImproving s (prices ls) → at < length ls → at ≡ length ls - 1 → l ≡ get_or ls at l → IsBestLevel s ls l
best_level_at s ls at l r h last e p c =
    let top : get_or (prices ls) (length (prices ls) - 1) 0 ≡ l.price = ap (λ n. get_or (prices ls) (n - 1) 0) (length-map ls (λ (m : Level). m.price)) ∙ ap (λ n. get_or (prices ls) n 0) (sym last) ∙ level_price ls at l h e in
    no_more s p l.price (subst (λ q. IsNoBetter s p q) top (rising_top s (prices ls) p r c))

-- ---- the list after a change
rising_rest : (o : Resting) (os : List Resting) → IsRising (open_orders (o ∷ os)) → IsRising (open_orders os)
rising_rest o os r = elim (eqb o.left 0) as (λ b. IsRising (cond b (open_orders os) (o ∷ open_orders os)) → IsRising (open_orders os)) [ true ↦ λ q. q | false ↦ λ q. q.1 ] r

open-without : (os : List Resting) (i : ℕ) (x : Resting) → x.left ≡ 0 → IsRising (open_orders os) → i < length os → 0 < (get_or os i nothing).left → (get_or os i nothing).reference ≡ x.reference → open_orders (set os i x) ≡ without x.reference (open_orders os)
open-without [] i x z r h g e = absurd (omega arith)
open-without (o ∷ os) zero x z r h g e =
    let t : eqb o.left 0 ≡ false = ne_eqb o.left 0 (omega (arith, g)) in
    let u : eqb x.left 0 ≡ true = eq-eqb x.left 0 z in
    let same : eqb o.reference x.reference ≡ true = eq-eqb o.reference x.reference e in
    let s = rw t at r in
    rw (t, u, same) (sym (keep_all x.reference (open_orders os) (subst (λ (n : ℕ). AllByRecursion (λ (y : Resting). n < y.reference) (open_orders os)) e s.0)))
open-without (o ∷ os) (suc i) x z r h g e =
    let rest = open-without os i x z (rising_rest o os r) (omega arith) g e in
    elim (cases_eq o.left 0) [
      | inl q ↦ (let t : eqb o.left 0 ≡ true = eq-eqb o.left 0 q in rw t rest)
      | inr q ↦
          let t : eqb o.left 0 ≡ false = ne_eqb o.left 0 q in
          let s = rw t at r in
          let later : o.reference < x.reference = subst (λ (n : ℕ). o.reference < n) e (open_each (λ (y : Resting). o.reference < y.reference) os i (omega arith) g s.0) in
          let u : eqb o.reference x.reference ≡ false = grind (arith, nat_tests) in
          rw (t, u) (ap (λ v. o ∷ v) rest)
    ]

open-with : (os : List Resting) (i : ℕ) (x : Resting) → x.left ≢ 0 → IsRising (open_orders os) → i < length os → 0 < (get_or os i nothing).left → (get_or os i nothing).reference ≡ x.reference → open_orders (set os i x) ≡ with_order x (open_orders os)
open-with [] i x z r h g e = absurd (omega arith)
open-with (o ∷ os) zero x z r h g e =
    let t : eqb o.left 0 ≡ false = ne_eqb o.left 0 (omega (arith, g)) in
    let u : eqb x.left 0 ≡ false = ne_eqb x.left 0 z in
    let same : eqb o.reference x.reference ≡ true = eq-eqb o.reference x.reference e in
    let s = rw t at r in
    rw (t, u, same) (ap (λ v. x ∷ v) (sym (leave_all x (open_orders os) (subst (λ (n : ℕ). AllByRecursion (λ (y : Resting). n < y.reference) (open_orders os)) e s.0))))
open-with (o ∷ os) (suc i) x z r h g e =
    let rest = open-with os i x z (rising_rest o os r) (omega arith) g e in
    elim (cases_eq o.left 0) [
      | inl q ↦ (let t : eqb o.left 0 ≡ true = eq-eqb o.left 0 q in rw t rest)
      | inr q ↦
          let t : eqb o.left 0 ≡ false = ne_eqb o.left 0 q in
          let s = rw t at r in
          let later : o.reference < x.reference = subst (λ (n : ℕ). o.reference < n) e (open_each (λ (y : Resting). o.reference < y.reference) os i (omega arith) g s.0) in
          let u : eqb o.reference x.reference ≡ false = grind (arith, nat_tests) in
          rw (t, u) (ap (λ v. o ∷ v) rest)
    ]

pub open-changed : (os : List Resting) (i : ℕ) (x : Resting) → IsRising (open_orders os) → i < length os → 0 < (get_or os i nothing).left → (get_or os i nothing).reference ≡ x.reference → open_orders (set os i x) ≡ changed x (open_orders os)
open-changed os i x r h g e =
    elim (cases_eq x.left 0) [
      | inl z ↦ (let b : eqb x.left 0 ≡ true = eq-eqb x.left 0 z in subst (λ c. open_orders (set os i x) ≡ cond c (without x.reference (open_orders os)) (with_order x (open_orders os))) (sym b) (open-without os i x z r h g e))
      | inr z ↦ (let b : eqb x.left 0 ≡ false = ne_eqb x.left 0 z in subst (λ c. open_orders (set os i x) ≡ cond c (without x.reference (open_orders os)) (with_order x (open_orders os))) (sym b) (open-with os i x z r h g e))
    ]

pub right_at : (q : Queue) (os : List Resting) (nx : List ℕ) (ls : List Level) (at : ℕ) (l : Level) → IsIndexed q os nx ls → at < length ls → l ≡ get_or ls at l → IsRight q os nx l
right_at q os nx ls at l x h e = subst (λ (m : Level). IsRight q os nx m) (sym e) (x.right at l h)

pub best_none : (q : Queue) (os : List Resting) (nx : List ℕ) (ls : List Level) → IsIndexed q os nx ls → length ls ≡ 0 → best_in q (open_orders os) ≡ None
best_none q os nx ls x h = ap (option_map (λ (y : Resting). let b : Best = record { price = y.price; shares = shares_in q y.price (open_orders os) } in b)) (top_none q os nx ls x h)
