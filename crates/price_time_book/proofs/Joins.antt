-- An order joins the vector of arrival, the links and the levels.
use Rattle.std.proofs.Common.{◌≡◌, ◌≢◌, ℕ, ◌+◌, ◌-◌, ◌*◌, ◌<◌, ◌≤◌, Bool, true, false, cond, eqb, List, [], ◌∷◌, ◌++◌, length, get_or, set, take, drop, refl, sym, ap, ◌∙◌, arith, inl, inr, suc, zero, subst, All, Contains, ◌⊎◌}
use Rattle.std.specs.List.{AllByRecursion, insert}
use Rattle.std.proofs.lemmas.Bool.{cases_eq, cases_lt}
use Rattle.std.proofs.lemmas.Bool.Decides.{nat_tests}
use Rattle.std.proofs.lemmas.List.{get_or-map, length-map, length-set, length_push, get_or_default, get_or_append_left, get_or_push, get_or-set_same, get_or-set_other, map-set, set-get_or, take-append-drop, take-map, drop-map, map-append}
use Rattle.std.proofs.lemmas.List.Elements.{All-from_recursion, All-append, All-cons, All-take, All-drop, Contains-get_or, Contains-append_left, Contains-append_right, Contains-append_cases}
use Rattle.price_time_book.specs.declared.resting.Resting.{Resting}
use Rattle.price_time_book.specs.declared.levels.Level.{Level}
use Rattle.price_time_book.specs.declared.levels.Queue.{Queue}
use Rattle.market_types.specs.declared.order.Side.{Side}
use Rattle.market_types.specs.declared.order.Side.TheVariants.{Buy, Sell}
use Rattle.price_time_book.specs.Queues.{queue_of}
use Rattle.price_time_book.specs.Indexed.{bit, hidden_bit, key, key_of, open_orders, prices, shares_by, IsImproving, IsWorse, nothing, IsOpenAt, IsClear, IsPlacedAt, IsFree, IsRight, IsLinked, IsIndexed}
use Rattle.price_time_book.proofs.Prices.{rising_head, rising_le, worse_after, worse_apart, worse_before, worse-trans}

pub open-push-cases : (os : List Resting) (x : Resting) (p k : ℕ) → IsOpenAt (os ++ x ∷ []) p k → IsOpenAt os p k ⊎ ((k ≡ length os) × (key_of x ≡ p))
open-push-cases os x p k h = elim (cases_lt k (length os)) [
  | inl l ↦
      let same : get_or (os ++ x ∷ []) k nothing ≡ get_or os k nothing = get_or_append_left os (x ∷ []) nothing k l in
      inl (record { within = l; left = subst (λ (o : Resting). 0 < o.left) same h.left; price = ap key_of (sym same) ∙ h.price })
  | inr l ↦
      let at : k ≡ length os = omega (arith, h.within, length_push os x) in
      let same : get_or (os ++ x ∷ []) k nothing ≡ x = get_or_push os x nothing k (sym at) in
      inr (at, ap key_of (sym same) ∙ h.price)
]

pub clear-push : (os : List Resting) (x : Resting) (p low high : ℕ) → high ≤ length os → IsClear os p low high → IsClear (os ++ x ∷ []) p low high
clear-push os x p low high h f = record { closed = λ k a b o. elim (open-push-cases os x p k o) [ inl q ↦ f.closed k a b q | inr q ↦ absurd (omega (arith, q.0)) ] }

pub placed-push-old : (os : List Resting) (x : Resting) (p k : ℕ) → IsPlacedAt os p k → IsPlacedAt (os ++ x ∷ []) p k
placed-push-old os x p k h =
    let same : get_or (os ++ x ∷ []) k nothing ≡ get_or os k nothing = get_or_append_left os (x ∷ []) nothing k h.within in
    record { within = omega (arith, h.within, length_push os x); price = ap key_of same ∙ h.price }

pub placed-push-new : (os : List Resting) (x : Resting) → IsPlacedAt (os ++ x ∷ []) (key_of x) (length os)
placed-push-new os x =
    let same : get_or (os ++ x ∷ []) (length os) nothing ≡ x = get_or_push os x nothing (length os) refl in
    record { within = omega (arith, length_push os x); price = ap key_of same }

pub placed-push-cases : (os : List Resting) (x : Resting) (p k : ℕ) → IsPlacedAt (os ++ x ∷ []) p k → IsPlacedAt os p k ⊎ ((k ≡ length os) × (key_of x ≡ p))
placed-push-cases os x p k h = elim (cases_lt k (length os)) [
  | inl l ↦
      let same : get_or (os ++ x ∷ []) k nothing ≡ get_or os k nothing = get_or_append_left os (x ∷ []) nothing k l in
      inl (record { within = l; price = ap key_of (sym same) ∙ h.price })
  | inr l ↦
      let at : k ≡ length os = omega (arith, h.within, length_push os x) in
      let same : get_or (os ++ x ∷ []) k nothing ≡ x = get_or_push os x nothing k (sym at) in
      inr (at, ap key_of (sym same) ∙ h.price)
]

pub free-push : (os : List Resting) (x : Resting) (p low high : ℕ) → high ≤ length os → IsFree os p low high → IsFree (os ++ x ∷ []) p low high
free-push os x p low high h f = record { closed = λ k a b o. elim (placed-push-cases os x p k o) [ inl q ↦ f.closed k a b q | inr q ↦ absurd (omega (arith, q.0)) ] }

pub free-push-other : (os : List Resting) (x : Resting) (p low : ℕ) → p ≢ key_of x → IsFree os p low (length os) → IsFree (os ++ x ∷ []) p low (length (os ++ x ∷ []))
free-push-other os x p low n f = record { closed = λ k a b o. elim (placed-push-cases os x p k o) [ inl q ↦ f.closed k a q.within q | inr q ↦ absurd (n (sym q.1)) ] }

pub free-end : (os : List Resting) (x : Resting) (p : ℕ) → IsFree (os ++ x ∷ []) p (length os + 1) (length (os ++ x ∷ []))
free-end os x p = record { closed = λ k a b o. absurd (omega (arith, length_push os x)) }

-- orders and shares after a push
pub open_orders-push : (os : List Resting) (x : Resting) → 0 < x.left → open_orders (os ++ x ∷ []) ≡ open_orders os ++ x ∷ []
open_orders-push [] x h = let t : eqb x.left 0 ≡ false = grind (arith, nat_tests) in rw t refl
open_orders-push (o ∷ os) x h =
    let rest = open_orders-push os x h in
    elim (eqb o.left 0) as (λ b. cond b (open_orders (os ++ x ∷ [])) (o ∷ open_orders (os ++ x ∷ [])) ≡ cond b (open_orders os) (o ∷ open_orders os) ++ x ∷ []) [ true ↦ rest | false ↦ ap (λ r. o ∷ r) rest ]

shares-push : (p : ℕ) (os : List Resting) (x : Resting) → shares_by p (os ++ x ∷ []) ≡ shares_by p os + cond (eqb (key_of x) p) x.left 0
shares-push p [] x = omega arith
shares-push p (o ∷ os) x = omega (arith, shares-push p os x)

pub shares-push-other : (p : ℕ) (os : List Resting) (x : Resting) → 0 < x.left → p ≢ key_of x → shares_by p (open_orders (os ++ x ∷ [])) ≡ shares_by p (open_orders os)
shares-push-other p os x h n =
    let t : eqb (key_of x) p ≡ false = grind (arith, nat_tests) in
    let e : cond (eqb (key_of x) p) x.left 0 ≡ 0 = rw t refl in
    ap (shares_by p) (open_orders-push os x h) ∙ omega (arith, shares-push p (open_orders os) x)

pub shares-push-same : (os : List Resting) (x : Resting) → 0 < x.left → shares_by (key_of x) (open_orders (os ++ x ∷ [])) ≡ shares_by (key_of x) (open_orders os) + x.left
shares-push-same os x h =
    let t : eqb (key_of x) (key_of x) ≡ true = grind (arith, nat_tests) in
    let e : cond (eqb (key_of x) (key_of x)) x.left 0 ≡ x.left = rw t refl in
    ap (shares_by (key_of x)) (open_orders-push os x h) ∙ omega (arith, shares-push (key_of x) (open_orders os) x)

pub shares-none : (os : List Resting) (p : ℕ) → ((k : ℕ) → IsOpenAt os p k → ⊥) → shares_by p (open_orders os) ≡ 0
shares-none [] p f = refl
shares-none (o ∷ os) p f =
    let rest = shares-none os p (λ k h. f (suc k) (record { within = omega (arith, h.within); left = h.left; price = h.price })) in
    elim (cases_eq o.left 0) [
      | inl e ↦ (let t : eqb o.left 0 ≡ true = grind (arith, nat_tests) in rw t rest)
      | inr e ↦
          let t : eqb o.left 0 ≡ false = grind (arith, nat_tests) in
          let n : key_of o ≢ p = λ q. f zero (record { within = omega arith; left = omega (arith, e); price = q }) in
          let u : eqb (key_of o) p ≡ false = grind (arith, nat_tests) in
          rw t (rw u (omega (arith, rest)))
    ]

-- links after a push
pub linked-push-other : (os : List Resting) (x : Resting) (p k n : ℕ) → p ≢ key_of x → IsLinked os p k n → IsLinked (os ++ x ∷ []) p k n
linked-push-other os x p k n d h = record {
  next = λ l. placed-push-old os x p n (h.next l);
  between = λ l. free-push os x p (k + 1) n (omega (arith, (h.next l).within)) (h.between l);
  none = λ l. free-push-other os x p (k + 1) d (h.none l);
}

-- a node that another at its price follows
pub linked-push-inner : (os : List Resting) (x : Resting) (p k n last : ℕ) → IsPlacedAt os p last → k < last → IsLinked os p k n → IsLinked (os ++ x ∷ []) p k n
linked-push-inner os x p k n last o b h = record {
  next = λ l. placed-push-old os x p n (h.next l);
  between = λ l. free-push os x p (k + 1) n (omega (arith, (h.next l).within)) (h.between l);
  none = λ l. absurd ((h.none l).closed last (omega arith) o.within o);
}

pub linked-push-last : (os : List Resting) (x : Resting) (last : ℕ) → IsFree os (key_of x) (last + 1) (length os) → last < length os → IsLinked (os ++ x ∷ []) (key_of x) last (length os)
linked-push-last os x last f l = record {
  next = λ _. placed-push-new os x;
  between = λ _. free-push os x (key_of x) (last + 1) (length os) (omega arith) f;
  none = λ q. absurd (omega arith);
}

pub linked-push-new : (os : List Resting) (x : Resting) (p : ℕ) → IsLinked (os ++ x ∷ []) p (length os) (length os)
linked-push-new os x p = record { next = λ l. absurd (omega arith); between = λ l. absurd (omega arith); none = λ l. free-end os x p }

-- levels after a push
pub right-push-other : (sd : Queue) → (os : List Resting) (nx nexts : List ℕ) (x : Resting) (l : Level) → 0 < x.left → key sd l.price ≢ key_of x → ((k : ℕ) → IsPlacedAt os (key sd l.price) k → get_or nexts k 0 ≡ get_or nx k 0) → IsRight sd os nx l → IsRight sd (os ++ x ∷ []) nexts l
right-push-other sd os nx nexts x l h n stays r = record {
  first = placed-push-old os x (key sd l.price) l.first r.first;
  before = clear-push os x (key sd l.price) 0 l.first (omega (arith, r.first.within)) r.before;
  last = placed-push-old os x (key sd l.price) l.last r.last;
  after = free-push-other os x (key sd l.price) (l.last + 1) n r.after;
  linked = λ k w o. elim (placed-push-cases os x (key sd l.price) k o) [
    | inl old ↦ subst (λ m. IsLinked (os ++ x ∷ []) (key sd l.price) k m) (sym (stays k old)) (linked-push-other os x (key sd l.price) k (get_or nx k 0) n (r.linked k w old))
    | inr new ↦ absurd (n (sym new.1))
  ];
  shares = r.shares ∙ sym (shares-push-other (key sd l.price) os x h n);
  live = r.live;
}

pub right-push-same : (sd : Queue) → (os : List Resting) (nx : List ℕ) (x : Resting) (l : Level) → 0 < x.left → key sd l.price ≡ key_of x → length nx ≡ length os → IsRight sd os nx l → IsRight sd (os ++ x ∷ []) (set nx l.last (length os) ++ length os ∷ []) (record l { last = length os; shares = l.shares + x.left })
right-push-same sd os nx x l h e same r =
    let n = length os in
    let nexts = set nx l.last n ++ n ∷ [] in
    let long : length (set nx l.last n) ≡ n = length-set nx l.last n ∙ same in
    record {
      first = placed-push-old os x (key sd l.price) l.first r.first;
      before = clear-push os x (key sd l.price) 0 l.first (omega (arith, r.first.within)) r.before;
      last = subst (λ p. IsPlacedAt (os ++ x ∷ []) p n) (sym e) (placed-push-new os x);
      after = free-end os x (key sd l.price);
      linked = λ k w o. elim (placed-push-cases os x (key sd l.price) k o) [
        | inr new ↦
            let value : get_or nexts k 0 ≡ n = get_or_push (set nx l.last n) n 0 k (long ∙ sym new.0) in
            subst (λ m. IsLinked (os ++ x ∷ []) (key sd l.price) k m) (sym value) (subst (λ j. IsLinked (os ++ x ∷ []) (key sd l.price) j n) (sym new.0) (linked-push-new os x (key sd l.price)))
        | inl old ↦
            let kept : get_or nexts k 0 ≡ get_or (set nx l.last n) k 0 = get_or_append_left (set nx l.last n) (n ∷ []) 0 k (omega (arith, old.within, long)) in
            elim (cases_eq k l.last) [
              | inl s ↦
                  let value : get_or nexts k 0 ≡ n = kept ∙ ap (λ j. get_or (set nx l.last n) j 0) s ∙ get_or-set_same nx l.last n 0 (omega (arith, same, r.last.within)) in
                  let last = linked-push-last os x l.last (subst (λ m. IsFree os m (l.last + 1) n) e r.after) r.last.within in
                  subst (λ m. IsLinked (os ++ x ∷ []) (key sd l.price) k m) (sym value) (subst (λ j. IsLinked (os ++ x ∷ []) (key sd l.price) j n) (sym s) (subst (λ m. IsLinked (os ++ x ∷ []) m l.last n) (sym e) last))
              | inr s ↦
                  let value : get_or nexts k 0 ≡ get_or nx k 0 = kept ∙ get_or-set_other nx l.last k n 0 s in
                  let inner : k < l.last = elim (cases_lt k l.last) [ inl a ↦ a | inr a ↦ absurd (r.after.closed k (omega arith) old.within old) ] in
                  subst (λ m. IsLinked (os ++ x ∷ []) (key sd l.price) k m) (sym value) (linked-push-inner os x (key sd l.price) k (get_or nx k 0) l.last r.last inner (r.linked k w old))
            ]
      ];
      shares = subst (λ p. l.shares ≡ shares_by p (open_orders os) → l.shares + x.left ≡ shares_by p (open_orders (os ++ x ∷ []))) (sym e) (λ q. omega (arith, shares-push-same os x h)) r.shares;
      live = omega (arith, r.live);
    }

pub right-push-new : (os : List Resting) (nx : List ℕ) (x : Resting) → 0 < x.left → length nx ≡ length os → ((k : ℕ) → IsOpenAt os (key_of x) k → ⊥) → IsRight (queue_of x) (os ++ x ∷ []) (nx ++ length os ∷ []) (record { price = x.price; first = length os; last = length os; shares = x.left })
right-push-new os nx x h same f = record {
  first = placed-push-new os x;
  before = clear-push os x (key_of x) 0 (length os) (omega arith) (record { closed = λ k a b o. f k o });
  last = placed-push-new os x;
  after = free-end os x (key_of x);
  linked = λ k w o.
      let at : k ≡ length os = omega (arith, o.within, length_push os x) in
      let value : get_or (nx ++ length os ∷ []) k 0 ≡ length os = get_or_push nx (length os) 0 k (same ∙ sym at) in
      subst (λ m. IsLinked (os ++ x ∷ []) (key_of x) k m) (sym value) (subst (λ j. IsLinked (os ++ x ∷ []) (key_of x) j (length os)) (sym at) (linked-push-new os x (key_of x)));
  shares = omega (arith, shares-push-same os x h, shares-none os (key_of x) f);
  live = h;
}

-- prices
rising_lt : (s : Side) (ps : List ℕ) (i j : ℕ) → IsImproving s ps → i < j → j < length ps → IsWorse s (get_or ps i 0) (get_or ps j 0)
rising_lt s [] i j r h l = absurd (omega arith)
rising_lt s (p ∷ ps) zero zero r h l = absurd (omega arith)
rising_lt s (p ∷ ps) zero (suc j) r h l = All-from_recursion (λ (q : ℕ). IsWorse s p q) ps r.0 j 0 (omega arith)
rising_lt s (p ∷ ps) (suc i) zero r h l = absurd (omega arith)
rising_lt s (p ∷ ps) (suc i) (suc j) r h l = rising_lt s ps i j r.1 (omega arith) (omega arith)

each-insert : (P : ℕ → Type 0) (ps : List ℕ) (at p : ℕ) → P p → AllByRecursion P ps → AllByRecursion P (insert ps at p)
each-insert P [] zero p h a = (h, tt)
each-insert P [] (suc at) p h a = (h, tt)
each-insert P (q ∷ ps) zero p h a = (h, a)
each-insert P (q ∷ ps) (suc at) p h a = (a.0, each-insert P ps at p h a.1)

each-above : (s : Side) (p q : ℕ) (ps : List ℕ) → IsWorse s p q → AllByRecursion (λ (r : ℕ). IsWorse s q r) ps → AllByRecursion (λ (r : ℕ). IsWorse s p r) ps
each-above s p q [] h a = tt
each-above s p q (r ∷ ps) h a = (worse-trans s p q r h a.0, each-above s p q ps h a.1)

pub rising-insert : (s : Side) (ps : List ℕ) (at p : ℕ) → IsImproving s ps → at ≤ length ps → ((k : ℕ) → k + 1 ≡ at → IsWorse s (get_or ps k 0) p) → (at < length ps → IsWorse s p (get_or ps at 0)) → IsImproving s (insert ps at p)
rising-insert s [] zero p r le low high = (tt, tt)
rising-insert s [] (suc at) p r le low high = (tt, tt)
rising-insert s (q ∷ ps) zero p r le low high = ((high (omega arith), each-above s p q ps (high (omega arith)) r.0), r)
rising-insert s (q ∷ ps) (suc at) p r le low high =
    let below : IsWorse s q p = worse_before s q (get_or (q ∷ ps) at 0) p (rising_head s q ps at r (omega arith)) (low at (omega arith)) in
    (each-insert (λ (r : ℕ). IsWorse s q r) ps at p below r.0, rising-insert s ps at p r.1 (omega arith) (λ k e. low (suc k) (omega arith)) (λ h. high (omega arith)))

pub price_at : (ls : List Level) (k : ℕ) (d : Level) → k < length ls → get_or (prices ls) k 0 ≡ (get_or ls k d).price
price_at ls k d h = get_or-map (λ (l : Level). l.price) ls k d 0 h

-- two levels have two prices
pub levels_differ : (sd : Queue) (ls : List Level) (i j : ℕ) (d e : Level) → IsImproving sd.side (prices ls) → i < length ls → j < length ls → i ≢ j → (get_or ls i d).price ≢ (get_or ls j e).price
levels_differ sd ls i j d e r a b n q =
    let long = length-map ls (λ (l : Level). l.price) in
    let same : get_or (prices ls) i 0 ≡ get_or (prices ls) j 0 = price_at ls i d a ∙ q ∙ sym (price_at ls j e b) in
    elim (cases_lt i j) [
      | inl h ↦ worse_apart sd.side (get_or (prices ls) i 0) (get_or (prices ls) j 0) (rising_lt sd.side (prices ls) i j r h (omega (arith, long))) same
      | inr h ↦ (let g : j < i = omega arith in worse_apart sd.side (get_or (prices ls) j 0) (get_or (prices ls) i 0) (rising_lt sd.side (prices ls) j i r g (omega (arith, long))) (sym same))
    ]

-- keys
pub key_price : (sd : Queue) (a b : ℕ) → key sd a ≡ key sd b → a ≡ b
key_price sd a b e = omega arith

part_small : (a : Side) (x : Bool) → 2 * bit a + hidden_bit x ≤ 3
part_small Buy true = omega arith
part_small Buy false = omega arith
part_small Sell true = omega arith
part_small Sell false = omega arith

part_apart : (a b : Side) (x y : Bool) → (a ≡ b → x ≡ y → ⊥) → 2 * bit a + hidden_bit x ≢ 2 * bit b + hidden_bit y
part_apart Buy Buy true true n e = n refl refl
part_apart Buy Buy true false n e = omega arith
part_apart Buy Buy false true n e = omega arith
part_apart Buy Buy false false n e = n refl refl
part_apart Buy Sell true true n e = omega arith
part_apart Buy Sell true false n e = omega arith
part_apart Buy Sell false true n e = omega arith
part_apart Buy Sell false false n e = omega arith
part_apart Sell Buy true true n e = omega arith
part_apart Sell Buy true false n e = omega arith
part_apart Sell Buy false true n e = omega arith
part_apart Sell Buy false false n e = omega arith
part_apart Sell Sell true true n e = n refl refl
part_apart Sell Sell true false n e = omega arith
part_apart Sell Sell false true n e = omega arith
part_apart Sell Sell false false n e = n refl refl

pub keys_apart : (sd t : Queue) → sd ≢ t → (a b : ℕ) → key sd a ≢ key t b
keys_apart sd t n a b e =
    let apart = part_apart sd.side t.side sd.shown t.shown (λ f g. n (λ i. record { side = f i; shown = g i })) in
    omega (arith, part_small sd.side sd.shown, part_small t.side t.shown, apart)

-- an order at a price that has a level
pub indexed_extend : (os : List Resting) (nx : List ℕ) (ls : List Level) (x : Resting) (at : ℕ) (l : Level) → IsIndexed (queue_of x) os nx ls → at < length ls → l ≡ get_or ls at l → l.price ≡ x.price → 0 < x.left → IsIndexed (queue_of x) (os ++ x ∷ []) (set nx l.last (length os) ++ length os ∷ []) (set ls at (record l { last = length os; shares = l.shares + x.left }))
indexed_extend os nx ls x at l v h e p live =
    let os' = os ++ x ∷ [] in
    let n = length os in
    let l' : Level = record l { last = n; shares = l.shares + x.left } in
    let nexts = set nx l.last n ++ n ∷ [] in
    let here : IsRight (queue_of x) os nx l = subst (λ (m : Level). IsRight (queue_of x) os nx m) (sym e) (v.right at l h) in
    let price : get_or (prices ls) at 0 ≡ l.price = price_at ls at l h ∙ ap (λ (m : Level). m.price) (sym e) in
    let stays : prices (set ls at l') ≡ prices ls = map-set (λ (m : Level). m.price) ls at l' ∙ ap (λ (q : ℕ). set (prices ls) at q) (sym price) ∙ set-get_or (prices ls) at 0 in
    let long : length (set nx l.last n) ≡ n = length-set nx l.last n ∙ v.same in
    record {
      same = length_push (set nx l.last n) n ∙ ap (λ k. k + 1) long ∙ sym (length_push os x);
      rising = subst (IsImproving x.side) (sym stays) v.rising;
      right = λ k d w.
          let within : k < length ls = omega (arith, length-set ls at l') in
          elim (cases_eq k at) [
            | inl q ↦ subst (λ (m : Level). IsRight (queue_of x) os' nexts m) (sym (ap (λ j. get_or (set ls at l') j d) q ∙ get_or-set_same ls at l' d h)) (right-push-same (queue_of x) os nx x l live (ap (key (queue_of x)) p) v.same here)
            | inr q ↦
                let m = get_or ls k d in
                let apart : key (queue_of x) m.price ≢ key_of x = λ f. levels_differ (queue_of x) ls k at d l v.rising within h q (key_price (queue_of x) m.price x.price f ∙ sym p ∙ ap (λ (m : Level). m.price) e) in
                let others : (j : ℕ) → IsPlacedAt os (key (queue_of x) m.price) j → get_or nexts j 0 ≡ get_or nx j 0 = λ j o.
                get_or_append_left (set nx l.last n) (n ∷ []) 0 j (omega (arith, o.within, long))
                ∙ get_or-set_other nx l.last j n 0 (λ s. apart (sym o.price ∙ ap (λ i. key_of (get_or os i nothing)) s ∙ here.last.price ∙ ap (key (queue_of x)) p)) in
                subst (λ (m : Level). IsRight (queue_of x) os' nexts m) (sym (get_or-set_other ls at k l' d q)) (right-push-other (queue_of x) os nx nexts x m live apart others (v.right k d within))
          ];
      covered = λ q k o. elim (open-push-cases os x (key (queue_of x) q) k o) [
        | inl old ↦ subst (λ (ps : List ℕ). Contains ps q) (sym stays) (v.covered q k old)
        | inr new ↦ subst (λ (ps : List ℕ). Contains ps q) (sym stays) (subst (λ (m : ℕ). Contains (prices ls) m) (price ∙ p ∙ key_price (queue_of x) x.price q new.1) (Contains-get_or (prices ls) at 0 (omega (arith, length-map ls (λ (m : Level). m.price)))))
      ];
    }

-- an order at a price that has no level
pub indexed_make : (os : List Resting) (nx : List ℕ) (ls : List Level) (x : Resting) (at : ℕ) → IsIndexed (queue_of x) os nx ls → at ≤ length ls → ((d : Level) → 0 < at → IsWorse x.side (get_or ls (at - 1) d).price x.price) → ((d : Level) → at < length ls → IsWorse x.side x.price (get_or ls at d).price) → 0 < x.left → IsIndexed (queue_of x) (os ++ x ∷ []) (nx ++ length os ∷ []) (insert ls at (record { price = x.price; first = length os; last = length os; shares = x.left }))
indexed_make os nx ls x at v le low high live =
    let os' = os ++ x ∷ [] in
    let n = length os in
    let l : Level = record { price = x.price; first = n; last = n; shares = x.left } in
    let nexts = nx ++ n ∷ [] in
    let ps = prices ls in
    let long = length-map ls (λ (m : Level). m.price) in
    let joins : prices (insert ls at l) ≡ insert ps at x.price =
    map-append (λ (m : Level). m.price) (take at ls) (l ∷ drop at ls) ∙ ap (λ (r : List ℕ). r ++ x.price ∷ prices (drop at ls)) (sym (take-map (λ (m : Level). m.price) at ls)) ∙ ap (λ (r : List ℕ). take at ps ++ x.price ∷ r) (sym (drop-map (λ (m : Level). m.price) at ls)) in
    let below : (k : ℕ) → k + 1 ≡ at → IsWorse x.side (get_or ps k 0) x.price = λ k e. (let j : at - 1 ≡ k = omega arith in subst (λ n. IsWorse x.side n x.price) (sym (price_at ls k l (omega arith))) (subst (λ i. IsWorse x.side (get_or ls i l).price x.price) j (low l (omega arith)))) in
    let above : at < length ps → IsWorse x.side x.price (get_or ps at 0) = λ h. (let w : at < length ls = omega (arith, long) in subst (λ n. IsWorse x.side x.price n) (sym (price_at ls at l w)) (high l w)) in
    let rising : IsImproving x.side (insert ps at x.price) = rising-insert x.side ps at x.price v.rising (omega (arith, long)) below above in
    let other : (k : ℕ) → k < length ps → get_or ps k 0 ≢ x.price = λ k h q. elim (cases_lt k at) [
      | inl a ↦ worse_apart x.side (get_or ps k 0) x.price (worse_before x.side (get_or ps k 0) (get_or ps (at - 1) 0) x.price (rising_le x.side ps k (at - 1) v.rising (omega arith) (omega (arith, long))) (below (at - 1) (omega arith))) q
      | inr a ↦ worse_apart x.side x.price (get_or ps k 0) (worse_after x.side x.price (get_or ps at 0) (get_or ps k 0) (above (omega arith)) (rising_le x.side ps at k v.rising a h)) (sym q)
    ] in
    let none : (k : ℕ) → IsOpenAt os (key_of x) k → ⊥ = λ k o. (let c = v.covered x.price k o in other c.0 c.1 (get_or_default ps c.0 0 x.price c.1 ∙ c.2)) in
    let kept : All (λ (m : Level). IsRight (queue_of x) os' nexts m) ls = λ k d h. right-push-other (queue_of x) os nx nexts x (get_or ls k d) live (λ q. other k (omega (arith, long)) (price_at ls k d h ∙ key_price (queue_of x) (get_or ls k d).price x.price q)) (λ j o. get_or_append_left nx (n ∷ []) 0 j (omega (arith, o.within, v.same))) (v.right k d h) in
    record {
      same = length_push nx n ∙ ap (λ k. k + 1) v.same ∙ sym (length_push os x);
      rising = subst (IsImproving x.side) (sym joins) rising;
      right = All-append (λ (m : Level). IsRight (queue_of x) os' nexts m) (take at ls) (l ∷ drop at ls) (All-take (λ (m : Level). IsRight (queue_of x) os' nexts m) at ls kept) (All-cons (λ (m : Level). IsRight (queue_of x) os' nexts m) l (drop at ls) (right-push-new os nx x live v.same none) (All-drop (λ (m : Level). IsRight (queue_of x) os' nexts m) at ls kept));
      covered = λ q k o. subst (λ (r : List ℕ). Contains r q) (sym joins) (elim (open-push-cases os x (key (queue_of x) q) k o) [
        | inl old ↦ elim (Contains-append_cases (take at ps) (drop at ps) q (subst (λ (r : List ℕ). Contains r q) (sym (take-append-drop at ps)) (v.covered q k old))) [
          | inl a ↦ Contains-append_left (take at ps) (x.price ∷ drop at ps) q a
          | inr a ↦ Contains-append_right (take at ps) (x.price ∷ drop at ps) q (Contains-append_right (x.price ∷ []) (drop at ps) q a)
        ]
        | inr new ↦ Contains-append_right (take at ps) (x.price ∷ drop at ps) q (subst (λ m. Contains (x.price ∷ drop at ps) m) (key_price (queue_of x) x.price q new.1) (Contains-get_or (x.price ∷ drop at ps) 0 0 (omega arith)))
      ]);
    }

-- an order of another queue
pub indexed_other : (sd : Queue) (os : List Resting) (nx nexts : List ℕ) (ls : List Level) (x : Resting) → sd ≢ queue_of x → 0 < x.left → length nexts ≡ length os + 1 → ((p k : ℕ) → IsPlacedAt os (key sd p) k → get_or nexts k 0 ≡ get_or nx k 0) → IsIndexed sd os nx ls → IsIndexed sd (os ++ x ∷ []) nexts ls
indexed_other sd os nx nexts ls x n live long stays v = record {
  same = long ∙ sym (length_push os x);
  rising = v.rising;
  right = λ k d w. right-push-other sd os nx nexts x (get_or ls k d) live (keys_apart sd (queue_of x) n (get_or ls k d).price x.price) (stays (get_or ls k d).price) (v.right k d w);
  covered = λ q k o. elim (open-push-cases os x (key sd q) k o) [
    | inl old ↦ v.covered q k old
    | inr new ↦ absurd (keys_apart sd (queue_of x) n q x.price (sym new.1))
  ];
}

-- what another queue sees of an order that joins a level, or makes one
pub others_extend : (t : Queue) (os : List Resting) (nx : List ℕ) (ls : List Level) (x : Resting) (last q : ℕ) → t ≢ queue_of x → 0 < x.left → length nx ≡ length os → IsPlacedAt os (key (queue_of x) q) last → IsIndexed t os nx ls → IsIndexed t (os ++ x ∷ []) (set nx last (length os) ++ length os ∷ []) ls
others_extend t os nx ls x last q n live same here v =
    let m = length os in
    let long : length (set nx last m) ≡ m = length-set nx last m ∙ same in
    indexed_other t os nx (set nx last m ++ m ∷ []) ls x n live (length_push (set nx last m) m ∙ ap (λ k. k + 1) long)
    (λ p k o. get_or_append_left (set nx last m) (m ∷ []) 0 k (omega (arith, o.within, long)) ∙ get_or-set_other nx last k m 0 (λ s. keys_apart t (queue_of x) n p q (sym o.price ∙ ap (λ i. key_of (get_or os i nothing)) s ∙ here.price))) v

pub others_make : (t : Queue) (os : List Resting) (nx : List ℕ) (ls : List Level) (x : Resting) → t ≢ queue_of x → 0 < x.left → length nx ≡ length os → IsIndexed t os nx ls → IsIndexed t (os ++ x ∷ []) (nx ++ length os ∷ []) ls
others_make t os nx ls x n live same v =
    indexed_other t os nx (nx ++ length os ∷ []) ls x n live (length_push nx (length os) ∙ ap (λ k. k + 1) same) (λ p k o. get_or_append_left nx (length os ∷ []) 0 k (omega (arith, o.within, same))) v
