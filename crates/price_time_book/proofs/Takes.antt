-- An order of the vector of arrival gives shares or is lowered.
use Rattle.std.proofs.Common.{◌≡◌, ◌≢◌, ℕ, ◌+◌, ◌-◌, ◌*◌, ◌<◌, ◌≤◌, Bool, true, false, not, cond, ◌&&◌, eqb, filter, count_by, IfSome, List, [], ◌∷◌, Option, Some, None, length, get_or, refl, sym, ap, ◌∙◌, arith, inl, inr, suc, zero, subst, All, option_map}
use Rattle.std.specs.Prelude.{slice_get}
use Rattle.std.specs.List.{AllByRecursion}
use Rattle.std.proofs.lemmas.Bool.{cases_lt}
use Rattle.std.proofs.lemmas.List.{get_or_default, length-map}
use Rattle.std.proofs.lemmas.List.Sums.{sum_by-cons}
use Rattle.market_types.specs.declared.order.Side.{Side}
use Rattle.market_types.specs.declared.order.Side.TheVariants.{Buy, Sell}
use Rattle.price_time_book.specs.declared.resting.Resting.{Resting}
use Rattle.price_time_book.specs.declared.levels.Level.{Level}
use Rattle.price_time_book.specs.declared.levels.Queue.{Queue}
use Rattle.price_time_book.specs.Indexed.{key, key_of, open_orders, prices, shares_by, IsNoBetter, IsWorse, nothing, IsOpenAt, IsIndexed, IsSmall}
use Rattle.std.specs.Option.{option_map_or}
use Rattle.std.proofs.lemmas.List.Elements.{recursion_from_All}
use Rattle.price_time_book.specs.declared.resting.Best.{Best}
use Rattle.price_time_book.specs.Next.{crosses, crossing_of, next_of}
use Rattle.price_time_book.specs.Queues.{best_in, better_of, first_on, hidden_of, queue_of, shares_in, shown_of, top_in}
use Rattle.price_time_book.proofs.Bests.{none_crosses}
use Rattle.price_time_book.specs.Orderly.{IsOrderly}
use Rattle.price_time_book.specs.Orders.{changed, order_with}
use Rattle.price_time_book.specs.Sides.{is_better, is_within, opposite_of}
use Rattle.price_time_book.proofs.Changes.{orderly-changed}
use Rattle.price_time_book.proofs.Firsts.{key_at, key_queue, open-changed}
use Rattle.price_time_book.proofs.Joins.{price_at}
use Rattle.price_time_book.proofs.Lowers.{indexed_lower-other, open_each, with_left}
use Rattle.price_time_book.proofs.Prices.{no_better_both, rising_le, worse_apart, worse_before}
use Rattle.price_time_book.proofs.Stays.{each-changed}
use Rattle.price_time_book.proofs.Tops.{first_is, next-beyond, next-none, next-within}

-- the next order is the first of the other side, if the limit allows
pub next_is : (side mine : Side) (limit : ℕ) (w : List Resting) (o : Resting) → mine ≡ opposite_of side → first_on mine w ≡ Some o → is_within side limit o.price ≡ true → next_of w side limit ≡ Some o
next_is side mine limit w o s top h = next-within side mine limit w w w (Some (0, o)) 0 o refl refl s (sym top) refl h

pub next_none : (side mine : Side) (limit : ℕ) (w : List Resting) → mine ≡ opposite_of side → first_on mine w ≡ None → next_of w side limit ≡ None
next_none side mine limit w s top = next-none side mine limit w w w None refl refl s (sym top) refl

pub next_beyond : (side mine : Side) (limit : ℕ) (w : List Resting) (o : Resting) → mine ≡ opposite_of side → first_on mine w ≡ Some o → is_within side limit o.price ≡ false → next_of w side limit ≡ None
next_beyond side mine limit w o s top h = next-beyond side mine limit w w w (Some (0, o)) 0 o refl refl s (sym top) refl h

-- what a change of the order o at place i leaves
pub record IsLowered (os new : List Resting) (o : Resting) (v w : ℕ) : Type 0 where
  pub list : open_orders new ≡ changed (record o { left = v; intended = w }) (open_orders os)
  pub orderly : IsOrderly (open_orders new)
  pub small : IsSmall (open_orders os) → IsSmall (open_orders new)

pub lowered : (os new : List Resting) (i : ℕ) (o : Resting) (v w : ℕ) → o ≡ get_or os i nothing → IsOrderly (open_orders os) → i < length os → v < o.left → v ≤ w → new ≡ with_left os i v w → IsLowered os new o v w
lowered os new i o v w same h in_range less le is =
    let some : 0 < (get_or os i nothing).left = omega (arith, ap (λ (q : Resting). q.left) same) in
    let list : open_orders new ≡ changed (record o { left = v; intended = w }) (open_orders os) =
    ap open_orders is ∙ open-changed os i (record (get_or os i nothing) { left = v; intended = w }) h.rising in_range some refl ∙ ap (λ (q : Resting). changed (record q { left = v; intended = w }) (open_orders os)) (sym same) in
    record {
      list = list;
      orderly = subst IsOrderly (sym list) (orderly-changed (record o { left = v; intended = w }) (open_orders os) le h);
      small = λ a. subst IsSmall (sym list) (each-changed (λ (x : Resting). x.left ≤ 4294967295) (record o { left = v; intended = w }) (open_orders os) (omega (arith, few a)) a);
    }
  where
    few : IsSmall (open_orders os) → o.left ≤ 4294967295
    few a = omega (arith, ap (λ (q : Resting). q.left) same, open_each (λ (x : Resting). x.left ≤ 4294967295) os i in_range (omega (arith, ap (λ (q : Resting). q.left) same)) a)

pub others_lowered : (mine t : Queue) (os new : List Resting) (nx : List ℕ) (ls : List Level) (i v w p : ℕ) → t ≢ mine → IsOpenAt os (key mine p) i → v ≤ (get_or os i nothing).left → new ≡ with_left os i v w → IsIndexed t os nx ls → IsIndexed t new nx ls
others_lowered mine t os new nx ls i v w p n o le is x =
    subst (λ (u : List Resting). IsIndexed t u nx ls) (sym is) (indexed_lower-other t os nx ls i v w x o.within (λ e. n (e ∙ key_queue mine p (get_or os i nothing) o.price)) le)

-- the level of a price that has an open order stands where the price does
pub level_found : (q : Queue) (os : List Resting) (nx : List ℕ) (ls : List Level) (at p k : ℕ) → IsIndexed q os nx ls → IsOpenAt os (key q p) k → at ≤ length ls → ((d : Level) → 0 < at → IsWorse q.side (get_or ls (at - 1) d).price p) → ((d : Level) → at < length ls → IsNoBetter q.side p (get_or ls at d).price) → (at < length ls) × ((d : Level) → (get_or ls at d).price ≡ p)
level_found q os nx ls at p k x o le low high =
    let s = q.side in
    let d : Level = record { price = 0; first = 0; last = 0; shares = 0 } in
    let ps = prices ls in
    let c = x.covered p k o in
    let long = length-map ls (λ (l : Level). l.price) in
    let value : get_or ps c.0 0 ≡ p = get_or_default ps c.0 0 p c.1 ∙ c.2 in
    let from : at ≤ c.0 = elim (cases_lt c.0 at) [
      | inl h ↦
          let worse : IsWorse s (get_or ps (at - 1) 0) p = subst (λ n. IsWorse s n p) (sym (price_at ls (at - 1) d (omega arith))) (low d (omega arith)) in
          absurd (worse_apart s (get_or ps c.0 0) p (worse_before s (get_or ps c.0 0) (get_or ps (at - 1) 0) p (rising_le s ps c.0 (at - 1) x.rising (omega arith) (omega (arith, long))) worse) value)
      | inr h ↦ h
    ] in
    let within : at < length ls = omega (arith, from, c.1, long) in
    let most : IsNoBetter s (get_or ps at 0) p = subst (λ n. IsNoBetter s (get_or ps at 0) n) value (rising_le s ps at c.0 x.rising from c.1) in
    (within, λ e. no_better_both s (get_or ls at e).price p (subst (λ n. IsNoBetter s n p) (price_at ls at e within) most) (high e within))

-- the level of an open order stands where its price does among the levels, seen as a slice
pub level_of : (q : Queue) (os : List Resting) (nx : List ℕ) (ls v : List Level) (at p i : ℕ) → queue_of (get_or os i nothing) ≡ q → i < length os → 0 < (get_or os i nothing).left → p ≡ (get_or os i nothing).price → v ≡ ls → IsIndexed q os nx ls → at ≤ length v → ((d : Level) → 0 < at → IsWorse q.side (get_or v (at - 1) d).price p) → ((d : Level) → at < length v → IsNoBetter q.side p (get_or v at d).price) → (at < length ls) × ((d : Level) → IsOpenAt os (key q (get_or ls at d).price) i)
level_of q os nx ls v at p i mine within some price seen x le low high =
    let o = get_or os i nothing in
    let here : IsOpenAt os (key q o.price) i = record { within = within; left = some; price = key_at q o mine } in
    let there : IsOpenAt os (key q p) i = subst (λ n. IsOpenAt os (key q n) i) (sym price) here in
    let found = level_found q os nx ls at p i x there (subst (λ (w : List Level). at ≤ length w) seen le) (λ d. subst (λ (w : List Level). 0 < at → IsWorse q.side (get_or w (at - 1) d).price p) seen (low d)) (λ d. subst (λ (w : List Level). at < length w → IsNoBetter q.side p (get_or w at d).price) seen (high d)) in
    (found.0, λ d. subst (λ n. IsOpenAt os (key q n) i) (sym (found.1 d)) there)

-- ---- the fit of a level's shares
shares_few : (p : ℕ) (w : List Resting) → IsSmall w → shares_by p w ≤ 4294967295 * length w
shares_few p [] a = omega arith
shares_few p (o ∷ w) a = elim (eqb (key_of o) p) as (λ b. cond b o.left 0 + shares_by p w ≤ 4294967295 * length (o ∷ w)) [ true ↦ omega (arith, a.0, shares_few p w a.1) | false ↦ omega (arith, shares_few p w a.1) ]

pub levels_fit : (q : Queue) (os : List Resting) (nx : List ℕ) (ls : List Level) → IsIndexed q os nx ls → IsSmall (open_orders os) → length (open_orders os) < 4294967296 → All (λ (l : Level). l.shares < 18446744069414584320) ls
levels_fit q os nx ls x small few = λ k d h. omega (arith, (x.right k d h).shares, shares_few (key q (get_or ls k d).price) (open_orders os) small, few)

-- the same at slices of the vectors
pub placed_seen : (mine : Queue) (s w : List Resting) (t v : List Level) (at i : ℕ) → s ≡ w → t ≡ v → ((d : Level) → IsOpenAt s (key mine (get_or t at d).price) i) → (d : Level) → IsOpenAt w (key mine (get_or v at d).price) i
placed_seen mine s w t v at i e f h d = subst (λ (u : List Resting). IsOpenAt u (key mine (get_or v at d).price) i) e (subst (λ (u : List Level). IsOpenAt s (key mine (get_or u at d).price) i) f (h d))

pub top_seen : (mine : Side) (s w : List Resting) (i : ℕ) (o : Resting) → s ≡ w → o ≡ get_or w i nothing → first_on mine (open_orders s) ≡ Some (get_or s i nothing) → first_on mine (open_orders w) ≡ Some o
top_seen mine s w i o e same h = subst (λ (u : List Resting). first_on mine (open_orders u) ≡ Some (get_or u i nothing)) e h ∙ ap (λ (q : Resting). Some q) (sym same)

abbrev pub no_level : Level
no_level = record { price = 0; first = 0; last = 0; shares = 0 }

-- ---- searches that pass over closed orders
abbrev is_open : Resting → Bool
is_open o = not (eqb o.left 0)

pub filter_open : (os : List Resting) → filter is_open os ≡ open_orders os
filter_open [] = refl
filter_open (o ∷ os) = elim (eqb o.left 0) as (λ b. cond (not b) (o ∷ filter is_open os) (filter is_open os) ≡ cond b (open_orders os) (o ∷ open_orders os)) [ true ↦ filter_open os | false ↦ ap (λ v. o ∷ v) (filter_open os) ]

one_open : (b : Bool) (p : Resting → Bool) (n : ℕ) (o : Resting) (w : List Resting) → n ≡ count_by p w → cond (not b && p o) 1 0 + n ≡ count_by p (cond b w (o ∷ w))
one_open true p n o w e = omega (arith, e)
one_open false p n o w e = omega (arith, e, sum_by-cons (λ (x : Resting). cond (p x) 1 0) o w)

pub count_open : (p : Resting → Bool) (os : List Resting) → count_by (λ (o : Resting). is_open o && p o) os ≡ count_by p (open_orders os)
count_open p [] = refl
count_open p (o ∷ os) =
    let one : count_by (λ (x : Resting). is_open x && p x) (o ∷ os) ≡ cond (is_open o && p o) 1 0 + count_by (λ (x : Resting). is_open x && p x) os = sum_by-cons (λ (x : Resting). cond (is_open x && p x) 1 0) o os in
    one ∙ one_open (eqb o.left 0) p (count_by (λ (x : Resting). is_open x && p x) os) o (open_orders os) (count_open p os)

-- ---- an order that is held
got : (w : List Resting) (i : ℕ) (o : Resting) → slice_get w i ≡ Some o → (i < length w) × (get_or w i nothing ≡ o)
got [] i o e = absurd (cc e)
got (x ∷ w) zero o e = (omega arith, cc e)
got (x ∷ w) (suc i) o e = let rest = got w i o e in (omega (arith, rest.0), rest.1)

pub record IsHeld (os : List Resting) (i : ℕ) (o : Resting) (left : ℕ) : Type 0 where
  pub within : i < length os
  pub same : get_or os i nothing ≡ o
  pub less : left < o.left
  pub size : o.left ≤ o.intended

pub held : (s os list : List Resting) (reference left i : ℕ) (o : Resting) → s ≡ os → open_orders os ≡ list → Some o ≡ order_with reference (open_orders s) → slice_get s i ≡ Some o → IfSome (order_with reference list) (λ (q : Resting). left < q.left) → IsOrderly (open_orders os) → IsHeld os i o left
held s os list reference left i o e f found at wants h =
    let there : order_with reference list ≡ Some o = sym (found ∙ ap (λ (u : List Resting). order_with reference (open_orders u)) e ∙ ap (order_with reference) f) in
    let less : left < o.left = subst (λ (r : Option Resting). IfSome r (λ (q : Resting). left < q.left)) there wants in
    let g = got os i o (subst (λ (u : List Resting). slice_get u i ≡ Some o) e at) in
    let le = open_each (λ (x : Resting). x.left ≤ x.intended) os i g.0 (omega (arith, less, ap (λ (q : Resting). q.left) g.1)) h.within in
    record { within = g.0; same = g.1; less = less; size = subst (λ (q : Resting). q.left ≤ q.intended) g.1 le }

pub others_buy : (t : Side) → t ≡ Buy → Sell ≢ t
others_buy t e f = cc

pub others_sell : (t : Side) → t ≡ Sell → Buy ≢ t
others_sell t e f = cc

-- ---- orders that cross
abbrev pub is_met_by : Side → ℕ → Option Best → Bool
is_met_by side limit best = option_map_or (λ (b : Best). is_within side limit b.price) best false

-- where neither the best price of the shown nor that of the hidden orders of the other side crosses nothing does
pub none_cross : (side : Side) (limit : ℕ) (w : List Resting) → is_met_by side limit (best_in (shown_of (opposite_of side)) w) ≡ false → is_met_by side limit (best_in (hidden_of (opposite_of side)) w) ≡ false → crossing_of side limit w ≡ 0
none_cross side limit w h k = none_counted (crosses side limit) w (recursion_from_All (λ (o : Resting). crosses side limit o ≡ false) w (none_crosses w side limit (by_first (top_in (shown_of other) w) (top_in (hidden_of other) w) refl refl)))
  where
    other : Side
    other = opposite_of side

    none_counted : (p : Resting → Bool) (w : List Resting) → AllByRecursion (λ (o : Resting). p o ≡ false) w → count_by p w ≡ 0
    none_counted p [] a = refl
    none_counted p (o ∷ w) a = sum_by-cons (λ (x : Resting). cond (p x) 1 0) o w ∙ ap (λ b. cond b 1 0 + count_by p w) a.0 ∙ omega (arith, none_counted p w a.1)

    beyond : (q : Queue) (o : Resting) → top_in q w ≡ Some o → is_met_by side limit (best_in q w) ≡ false → is_within side limit o.price ≡ false
    beyond q o e h = sym (ap (λ (t : Option Resting). is_met_by side limit (option_map (λ (y : Resting). let b : Best = record { price = y.price; shares = shares_in q y.price w } in b) t)) e) ∙ h

    first : (a b : Option Resting) → top_in (shown_of other) w ≡ a → top_in (hidden_of other) w ≡ b → first_on other w ≡ better_of other a b
    first a b e f = first_is other w ∙ ap (λ (o : Option Resting). better_of other o (top_in (hidden_of other) w)) e ∙ ap (better_of other a) f

    by_first : (a b : Option Resting) → top_in (shown_of other) w ≡ a → top_in (hidden_of other) w ≡ b → next_of w side limit ≡ None
    by_first None None e f = next_none side other limit w refl (first None None e f)
    by_first None (Some o) e f = next_beyond side other limit w o refl (first None (Some o) e f) (beyond (hidden_of other) o f k)
    by_first (Some o) None e f = next_beyond side other limit w o refl (first (Some o) None e f) (beyond (shown_of other) o e h)
    by_first (Some o) (Some p) e f =
        next_beyond side other limit w (cond (is_better other p.price o.price) p o) refl (first (Some o) (Some p) e f)
        (elim (is_better other p.price o.price) as (λ c. is_within side limit (cond c p o).price ≡ false) [ true ↦ beyond (hidden_of other) p f k | false ↦ beyond (shown_of other) o e h ])
