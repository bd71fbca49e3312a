-- An order keeps fewer open shares, or none.
use Rattle.std.proofs.Common.{◌≡◌, ◌≢◌, ℕ, ◌+◌, ◌-◌, ◌<◌, ◌≤◌, true, false, cond, eqb, List, [], ◌∷◌, ◌++◌, length, get_or, set, take, drop, refl, sym, ap, ◌∙◌, arith, inl, inr, suc, zero, subst, Contains}
use Rattle.std.specs.List.{AllByRecursion, remove}
use Rattle.std.proofs.lemmas.Bool.{cases_eq, cases_lt}
use Rattle.std.proofs.lemmas.Bool.Decides.{nat_tests}
use Rattle.std.proofs.lemmas.List.{length-map, length-set, get_or_default, get_or-set_same, get_or-set_other, map-set, set-get_or, take-map, drop-map, map-append}
use Rattle.price_time_book.specs.declared.resting.Resting.{Resting}
use Rattle.price_time_book.specs.declared.levels.Level.{Level}
use Rattle.price_time_book.specs.declared.levels.Queue.{Queue}
use Rattle.market_types.specs.declared.order.Side.{Side}
use Rattle.price_time_book.specs.Queues.{queue_of}
use Rattle.price_time_book.specs.Indexed.{key, key_of, open_orders, prices, shares_by, IsImproving, IsWorse, nothing, IsOpenAt, IsClear, IsPlacedAt, IsFree, IsRight, IsLinked, IsIndexed}
use Rattle.price_time_book.proofs.Prices.{shares_open}
use Rattle.price_time_book.proofs.Joins.{key_price, keys_apart, levels_differ, price_at, shares-none}
use Rattle.std.proofs.lemmas.List.Edits.{length-remove, get_or-remove_below, get_or-remove_above}

-- the part of an order in the shares at a price
abbrev part : ℕ → Resting → ℕ
part p o = cond (eqb (key_of o) p) o.left 0

-- a closed order has no shares
pub shares_all : (p : ℕ) (os : List Resting) → shares_by p (open_orders os) ≡ shares_by p os
shares_all p [] = refl
shares_all p (o ∷ os) = elim (cases_eq o.left 0) [
  | inl e ↦
      let t : eqb o.left 0 ≡ true = grind (arith, nat_tests) in
      let z : part p o ≡ 0 = elim (eqb (key_of o) p) as (λ b. cond b o.left 0 ≡ 0) [ true ↦ e | false ↦ refl ] in
      rw t (omega (arith, shares_all p os, z))
  | inr e ↦ (let t : eqb o.left 0 ≡ false = grind (arith, nat_tests) in rw t (omega (arith, shares_all p os)))
]

shares-set : (p : ℕ) (os : List Resting) (i : ℕ) (x : Resting) → i < length os → shares_by p (set os i x) + part p (get_or os i nothing) ≡ shares_by p os + part p x
shares-set p [] i x h = absurd (omega arith)
shares-set p (o ∷ os) zero x h = omega arith
shares-set p (o ∷ os) (suc i) x h = omega (arith, shares-set p os i x (omega arith))

-- the order at place i with v open shares
abbrev pub with_left : List Resting → ℕ → ℕ → ℕ → List Resting
with_left os i v w = set os i (record (get_or os i nothing) { left = v; intended = w })

price-kept : (os : List Resting) (i v w k : ℕ) → i < length os → key_of (get_or (with_left os i v w) k nothing) ≡ key_of (get_or os k nothing)
price-kept os i v w k h =
    let x : Resting = record (get_or os i nothing) { left = v; intended = w } in
    elim (cases_eq k i) [
      | inl e ↦ ap (λ j. key_of (get_or (set os i x) j nothing)) e ∙ ap key_of (get_or-set_same os i x nothing h) ∙ ap (λ j. key_of (get_or os j nothing)) (sym e)
      | inr e ↦ ap key_of (get_or-set_other os i k x nothing e)
    ]

left-kept : (os : List Resting) (i v w k : ℕ) → i < length os → v ≤ (get_or os i nothing).left → (get_or (with_left os i v w) k nothing).left ≤ (get_or os k nothing).left
left-kept os i v w k h g =
    let x : Resting = record (get_or os i nothing) { left = v; intended = w } in
    elim (cases_eq k i) [
      | inl e ↦ omega (arith, ap (λ j. (get_or (set os i x) j nothing).left) e, ap (λ (o : Resting). o.left) (get_or-set_same os i x nothing h), ap (λ j. (get_or os j nothing).left) e)
      | inr e ↦ omega (arith, ap (λ (o : Resting). o.left) (get_or-set_other os i k x nothing e))
    ]

-- places after a change of open shares
placed-up : (os : List Resting) (i v w p k : ℕ) → i < length os → IsPlacedAt os p k → IsPlacedAt (with_left os i v w) p k
placed-up os i v w p k h o = record { within = omega (arith, o.within, length-set os i (record (get_or os i nothing) { left = v; intended = w })); price = price-kept os i v w k h ∙ o.price }

placed-down : (os : List Resting) (i v w p k : ℕ) → i < length os → IsPlacedAt (with_left os i v w) p k → IsPlacedAt os p k
placed-down os i v w p k h o = record { within = omega (arith, o.within, length-set os i (record (get_or os i nothing) { left = v; intended = w })); price = sym (price-kept os i v w k h) ∙ o.price }

pub open-down : (os : List Resting) (i v w p k : ℕ) → i < length os → v ≤ (get_or os i nothing).left → IsOpenAt (with_left os i v w) p k → IsOpenAt os p k
open-down os i v w p k h g o = record { within = omega (arith, o.within, length-set os i (record (get_or os i nothing) { left = v; intended = w })); left = omega (arith, o.left, left-kept os i v w k h g); price = sym (price-kept os i v w k h) ∙ o.price }

free-up : (os : List Resting) (i v w p low high : ℕ) → i < length os → IsFree os p low high → IsFree (with_left os i v w) p low high
free-up os i v w p low high h f = record { closed = λ k a b o. f.closed k a b (placed-down os i v w p k h o) }

linked-up : (os : List Resting) (i v w p k n : ℕ) → i < length os → IsLinked os p k n → IsLinked (with_left os i v w) p k n
linked-up os i v w p k n h f = record {
  next = λ l. placed-up os i v w p n h (f.next l);
  between = λ l. free-up os i v w p (k + 1) n h (f.between l);
  none = λ l. subst (λ m. IsFree (with_left os i v w) p (k + 1) m) (sym (length-set os i (record (get_or os i nothing) { left = v; intended = w }))) (free-up os i v w p (k + 1) (length os) h (f.none l));
}

-- a level after a change of open shares
pub right-lower : (sd : Queue) (os : List Resting) (nx : List ℕ) (l : Level) (i v w s : ℕ) → i < length os → v ≤ (get_or os i nothing).left → s ≡ shares_by (key sd l.price) (open_orders (with_left os i v w)) → 0 < s → IsRight sd os nx l → IsRight sd (with_left os i v w) nx (record l { shares = s })
right-lower sd os nx l i v w s h g e live r = record {
  first = placed-up os i v w (key sd l.price) l.first h r.first;
  before = record { closed = λ k a b o. r.before.closed k a b (open-down os i v w (key sd l.price) k h g o) };
  last = placed-up os i v w (key sd l.price) l.last h r.last;
  after = subst (λ m. IsFree (with_left os i v w) (key sd l.price) (l.last + 1) m) (sym (length-set os i (record (get_or os i nothing) { left = v; intended = w }))) (free-up os i v w (key sd l.price) (l.last + 1) (length os) h r.after);
  linked = λ k z o. linked-up os i v w (key sd l.price) k (get_or nx k 0) h (r.linked k z (placed-down os i v w (key sd l.price) k h o));
  shares = e;
  live = live;
}

-- shares after a change of open shares
pub shares-lower-same : (os : List Resting) (i v w p : ℕ) → IsOpenAt os p i → shares_by p (open_orders (with_left os i v w)) + (get_or os i nothing).left ≡ shares_by p (open_orders os) + v
shares-lower-same os i v w p o =
    let x : Resting = record (get_or os i nothing) { left = v; intended = w } in
    let t : eqb (key_of (get_or os i nothing)) p ≡ true = grind (arith, nat_tests, o.price) in
    let a : part p (get_or os i nothing) ≡ (get_or os i nothing).left = rw t refl in
    let b : part p x ≡ v = rw t refl in
    omega (arith, shares-set p os i x o.within, shares_all p os, shares_all p (with_left os i v w), a, b)

pub shares-lower-other : (os : List Resting) (i v w p : ℕ) → i < length os → key_of (get_or os i nothing) ≢ p → shares_by p (open_orders (with_left os i v w)) ≡ shares_by p (open_orders os)
shares-lower-other os i v w p h n =
    let x : Resting = record (get_or os i nothing) { left = v; intended = w } in
    let t : eqb (key_of (get_or os i nothing)) p ≡ false = grind (arith, nat_tests) in
    let a : part p (get_or os i nothing) ≡ 0 = rw t refl in
    let b : part p x ≡ 0 = rw t refl in
    omega (arith, shares-set p os i x h, shares_all p os, shares_all p (with_left os i v w), a, b)

-- what holds of the open orders holds at an open place
pub open_each : (P : Resting → Type 0) (os : List Resting) (k : ℕ) → k < length os → 0 < (get_or os k nothing).left → AllByRecursion P (open_orders os) → P (get_or os k nothing)
open_each P [] k h g a = absurd (omega arith)
open_each P (o ∷ os) zero h g a = let t : eqb o.left 0 ≡ false = grind (arith, nat_tests) in (rw t at a).0
open_each P (o ∷ os) (suc k) h g a =
    open_each P os k (omega arith) g (elim (eqb o.left 0) as (λ b. AllByRecursion P (cond b (open_orders os) (o ∷ open_orders os)) → AllByRecursion P (open_orders os)) [ true ↦ λ q. q | false ↦ λ q. q.1 ] a)

-- one closed order further along a chain
pub chain_on : (sd : Queue) (os : List Resting) (nx : List ℕ) (l : Level) (at : ℕ) → IsRight sd os nx l → l.first ≤ at → IsPlacedAt os (key sd l.price) at → IsClear os (key sd l.price) 0 at → (get_or os at nothing).left ≡ 0 → (at < get_or nx at 0) × IsPlacedAt os (key sd l.price) (get_or nx at 0) × IsClear os (key sd l.price) 0 (get_or nx at 0)
chain_on sd os nx l at r w o f z =
    let n = get_or nx at 0 in
    let k = r.linked at w o in
    let here : (j : ℕ) → IsOpenAt os (key sd l.price) j → j ≢ at = λ j q e. omega (arith, q.left, z, ap (λ i. (get_or os i nothing).left) e) in
    let more : at < n = elim (cases_lt at n) [
      | inl h ↦ h
      | inr h ↦ absurd (omega (
        arith,
        r.live,
        r.shares,
        shares-none os (key sd l.price) (λ j q. elim (cases_lt j at) [
          | inl b ↦ f.closed j (omega arith) b q
          | inr b ↦ (let c = here j q in (k.none h).closed j (omega (arith, c)) q.within (record { within = q.within; price = q.price }))
        ]),
      ))
    ] in (
      more,
      k.next more,
      record {
        closed = λ j a b q. elim (cases_lt j at) [
          | inl d ↦ f.closed j a d q
          | inr d ↦ (let c = here j q in (k.between more).closed j (omega (arith, c)) b (record { within = q.within; price = q.price }))
        ];
      },
    )

-- the index after an order keeps fewer open shares
pub indexed_lower : (sd : Queue) (os : List Resting) (nx : List ℕ) (ls : List Level) (at : ℕ) (l : Level) (i v w s : ℕ) → IsIndexed sd os nx ls → at < length ls → l ≡ get_or ls at l → IsOpenAt os (key sd l.price) i → v ≤ (get_or os i nothing).left → s + (get_or os i nothing).left ≡ l.shares + v → 0 < s → IsIndexed sd (with_left os i v w) nx (set ls at (record l { shares = s }))
indexed_lower sd os nx ls at l i v w s x h e o g sum live =
    let os' = with_left os i v w in
    let l' : Level = record l { shares = s } in
    let here : IsRight sd os nx l = subst (λ (m : Level). IsRight sd os nx m) (sym e) (x.right at l h) in
    let price : get_or (prices ls) at 0 ≡ l.price = price_at ls at l h ∙ ap (λ (m : Level). m.price) (sym e) in
    let stays : prices (set ls at l') ≡ prices ls = map-set (λ (m : Level). m.price) ls at l' ∙ ap (λ (q : ℕ). set (prices ls) at q) (sym price) ∙ set-get_or (prices ls) at 0 in
    record {
      same = x.same ∙ sym (length-set os i (record (get_or os i nothing) { left = v; intended = w }));
      rising = subst (IsImproving sd.side) (sym stays) x.rising;
      right = λ k d below.
          let within : k < length ls = omega (arith, length-set ls at l') in
          elim (cases_eq k at) [
            | inl q ↦ subst (λ (m : Level). IsRight sd os' nx m) (sym (ap (λ j. get_or (set ls at l') j d) q ∙ get_or-set_same ls at l' d h))
                (right-lower sd os nx l i v w s o.within g (omega (arith, sum, here.shares, shares-lower-same os i v w (key sd l.price) o)) live here)
            | inr q ↦
                let m = get_or ls k d in
                let r = x.right k d within in
                let apart : key_of (get_or os i nothing) ≢ key sd m.price = λ f. levels_differ sd ls k at d l x.rising within h q (key_price sd m.price l.price (sym f ∙ o.price) ∙ ap (λ (m : Level). m.price) e) in
                subst (λ (m : Level). IsRight sd os' nx m) (sym (get_or-set_other ls at k l' d q))
                (right-lower sd os nx m i v w m.shares o.within g (r.shares ∙ sym (shares-lower-other os i v w (key sd m.price) o.within apart)) r.live r)
          ];
      covered = λ q k f. subst (λ (ps : List ℕ). Contains ps q) (sym stays) (x.covered q k (open-down os i v w (key sd q) k o.within g f));
    }

each-remove : (P : ℕ → Type 0) (ps : List ℕ) (at : ℕ) → AllByRecursion P ps → AllByRecursion P (remove ps at)
each-remove P [] zero a = tt
each-remove P [] (suc at) a = tt
each-remove P (q ∷ ps) zero a = a.1
each-remove P (q ∷ ps) (suc at) a = (a.0, each-remove P ps at a.1)

rising-remove : (s : Side) (ps : List ℕ) (at : ℕ) → IsImproving s ps → IsImproving s (remove ps at)
rising-remove s [] zero r = tt
rising-remove s [] (suc at) r = tt
rising-remove s (p ∷ ps) zero r = r.1
rising-remove s (p ∷ ps) (suc at) r = (each-remove (λ (q : ℕ). IsWorse s p q) ps at r.0, rising-remove s ps at r.1)

contains-remove : (ps : List ℕ) (at q : ℕ) → at < length ps → get_or ps at 0 ≢ q → Contains ps q → Contains (remove ps at) q
contains-remove ps at q h n c =
    elim (cases_lt c.0 at) [
      | inl a ↦ (c.0, omega (arith, length-remove ps at h), get_or-remove_below ps at q c.0 a h ∙ c.2)
      | inr a ↦
          let other : c.0 ≢ at = λ e. n (ap (λ k. get_or ps k 0) (sym e) ∙ get_or_default ps c.0 0 q c.1 ∙ c.2) in
          let back : c.0 - 1 + 1 ≡ c.0 = omega (arith, other) in
          (c.0 - 1, omega (arith, other, c.1, length-remove ps at h), get_or-remove_above ps at q (c.0 - 1) (omega (arith, other)) h ∙ ap (λ k. get_or ps k q) back ∙ c.2)
    ]

-- the index after the last open shares of a level have left
pub indexed_close : (sd : Queue) (os : List Resting) (nx : List ℕ) (ls : List Level) (at : ℕ) (l : Level) (i v w : ℕ) → IsIndexed sd os nx ls → at < length ls → l ≡ get_or ls at l → IsOpenAt os (key sd l.price) i → v ≤ (get_or os i nothing).left → l.shares + v ≤ (get_or os i nothing).left → IsIndexed sd (with_left os i v w) nx (remove ls at)
indexed_close sd os nx ls at l i v w x h e o g sum =
    let os' = with_left os i v w in
    let here : IsRight sd os nx l = subst (λ (m : Level). IsRight sd os nx m) (sym e) (x.right at l h) in
    let price : get_or (prices ls) at 0 ≡ l.price = price_at ls at l h ∙ ap (λ (m : Level). m.price) (sym e) in
    let long = length-map ls (λ (m : Level). m.price) in
    let leaves : prices (remove ls at) ≡ remove (prices ls) at =
    map-append (λ (m : Level). m.price) (take at ls) (drop (suc at) ls) ∙ ap (λ (r : List ℕ). r ++ prices (drop (suc at) ls)) (sym (take-map (λ (m : Level). m.price) at ls)) ∙ ap (λ (r : List ℕ). take at (prices ls) ++ r) (sym (drop-map (λ (m : Level). m.price) (suc at) ls)) in
    let empty : shares_by (key sd l.price) (open_orders os') ≡ 0 = omega (arith, sum, here.shares, shares-lower-same os i v w (key sd l.price) o) in
    let other : (k : ℕ) (d : Level) → k < length ls → k ≢ at → IsRight sd os' nx (get_or ls k d) = λ k d within q.
    (let m = get_or ls k d in
    let r = x.right k d within in
    let apart : key_of (get_or os i nothing) ≢ key sd m.price = λ f. levels_differ sd ls k at d l x.rising within h q (key_price sd m.price l.price (sym f ∙ o.price) ∙ ap (λ (m : Level). m.price) e) in
    right-lower sd os nx m i v w m.shares o.within g (r.shares ∙ sym (shares-lower-other os i v w (key sd m.price) o.within apart)) r.live r) in
    record {
      same = x.same ∙ sym (length-set os i (record (get_or os i nothing) { left = v; intended = w }));
      rising = subst (IsImproving sd.side) (sym leaves) (rising-remove sd.side (prices ls) at x.rising);
      right = λ k d below.
          let fits : k + 1 < length ls = omega (arith, length-remove ls at h) in
          elim (cases_lt k at) [
            | inl a ↦ subst (λ (m : Level). IsRight sd os' nx m) (sym (get_or-remove_below ls at d k a h)) (other k d (omega arith) (omega arith))
            | inr a ↦ subst (λ (m : Level). IsRight sd os' nx m) (sym (get_or-remove_above ls at d k a h)) (other (k + 1) d fits (omega arith))
          ];
      covered = λ q k f. subst (λ (ps : List ℕ). Contains ps q) (sym leaves)
          (contains-remove (prices ls) at q (omega (arith, long)) (λ s. (let z : 0 < shares_by (key sd l.price) (open_orders os') = subst (λ p. 0 < shares_by (key sd p) (open_orders os')) (sym s ∙ price) (shares_open os' (key sd q) k f) in absurd (omega (arith, empty)))) (x.covered q k (open-down os i v w (key sd q) k o.within g f)));
    }

-- the index of another queue
pub indexed_lower-other : (sd : Queue) (os : List Resting) (nx : List ℕ) (ls : List Level) (i v w : ℕ) → IsIndexed sd os nx ls → i < length os → sd ≢ queue_of (get_or os i nothing) → v ≤ (get_or os i nothing).left → IsIndexed sd (with_left os i v w) nx ls
indexed_lower-other sd os nx ls i v w x h n g = record {
  same = x.same ∙ sym (length-set os i (record (get_or os i nothing) { left = v; intended = w }));
  rising = x.rising;
  right = λ k d within.
      let m = get_or ls k d in
      let r = x.right k d within in
      let apart : key_of (get_or os i nothing) ≢ key sd m.price = λ f. keys_apart sd (queue_of (get_or os i nothing)) n m.price (get_or os i nothing).price (sym f) in
      right-lower sd os nx m i v w m.shares h g (r.shares ∙ sym (shares-lower-other os i v w (key sd m.price) h apart)) r.live r;
  covered = λ q k f. x.covered q k (open-down os i v w (key sd q) k h g f);
}

-- a level's chain may begin at its first open order
right-front : (sd : Queue) (os : List Resting) (nx : List ℕ) (l : Level) (k : ℕ) → l.first ≤ k → IsOpenAt os (key sd l.price) k → IsClear os (key sd l.price) 0 k → IsRight sd os nx l → IsRight sd os nx (record l { first = k })
right-front sd os nx l k le o f r = record {
  first = record { within = o.within; price = o.price };
  before = f;
  last = r.last;
  after = r.after;
  linked = λ j z q. r.linked j (omega (arith, z, le)) q;
  shares = r.shares;
  live = r.live;
}

pub indexed_front : (sd : Queue) (os : List Resting) (nx : List ℕ) (ls : List Level) (at : ℕ) (l : Level) (k : ℕ) → IsIndexed sd os nx ls → at < length ls → l ≡ get_or ls at l → l.first ≤ k → IsOpenAt os (key sd l.price) k → IsClear os (key sd l.price) 0 k → IsIndexed sd os nx (set ls at (record l { first = k }))
indexed_front sd os nx ls at l k x h e le o f =
    let l' : Level = record l { first = k } in
    let here : IsRight sd os nx l = subst (λ (m : Level). IsRight sd os nx m) (sym e) (x.right at l h) in
    let price : get_or (prices ls) at 0 ≡ l.price = price_at ls at l h ∙ ap (λ (m : Level). m.price) (sym e) in
    let stays : prices (set ls at l') ≡ prices ls = map-set (λ (m : Level). m.price) ls at l' ∙ ap (λ (q : ℕ). set (prices ls) at q) (sym price) ∙ set-get_or (prices ls) at 0 in
    record {
      same = x.same;
      rising = subst (IsImproving sd.side) (sym stays) x.rising;
      right = λ j d below.
          let within : j < length ls = omega (arith, length-set ls at l') in
          elim (cases_eq j at) [
            | inl q ↦ subst (λ (m : Level). IsRight sd os nx m) (sym (ap (λ i. get_or (set ls at l') i d) q ∙ get_or-set_same ls at l' d h)) (right-front sd os nx l k le o f here)
            | inr q ↦ subst (λ (m : Level). IsRight sd os nx m) (sym (get_or-set_other ls at j l' d q)) (x.right j d within)
          ];
      covered = λ q j g. subst (λ (ps : List ℕ). Contains ps q) (sym stays) (x.covered q j g);
    }
