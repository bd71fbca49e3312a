-- Lemmas on chains of the orders of the vector of arrival.
use Rattle.std.proofs.Common.{◌≡◌, ◌≢◌, ℕ, ◌+◌, ◌-◌, ◌<◌, ◌≤◌, Bool, true, false, ◌&&◌, eqb, List, [], ◌∷◌, ◌++◌, Some, None, length, get_or, replicate, set, refl, sym, ap, ◌∙◌, arith, inl, inr, subst, find, zero}
use Rattle.std.specs.Prelude.{bytes_eq}
use Rattle.std.proofs.lemmas.Bool.{cases_Bool, cases_eq, cases_lt, eq-eqb, eqb-true}
use Rattle.std.proofs.lemmas.List.{length-replicate, length_push, get_or-replicate, get_or_past, get_or_append_left, get_or_push, get_or-set_same, get_or-set_other}
use Rattle.std.proofs.lemmas.Slice.Eq.{bytes_eq-Decides}
use Rattle.std.proofs.lemmas.List.Elements.{recursion_from_All}
use Rattle.price_time_book.specs.declared.resting.Resting.{Resting}
use Rattle.price_time_book.specs.Chains.{IsBefore, IsChained, chain_of, is_sent}
use Rattle.price_time_book.specs.Index.{AreLessened}
use Rattle.price_time_book.specs.Indexed.{nothing, open_orders}
use Rattle.price_time_book.specs.Orders.{order_of}
use Rattle.price_time_book.proofs.Indexes.{find_nobody, find_only}
use Rattle.price_time_book.proofs.Lowers.{open_each}
use Rattle.price_time_book.proofs.Stays.{all_differ}

-- an order of another chain is of another agent
pub other_chain : (agent : ℕ) (token : List ℕ) (o : Resting) → chain_of o.agent ≢ chain_of agent → is_sent agent token o ≡ false
other_chain agent token o n = elim (cases_Bool (eqb o.agent agent)) [
  | inl h ↦ absurd (n (ap chain_of (eqb-true o.agent agent h)))
  | inr h ↦ rw h refl
]

-- ---- a vector with the same agents up to a place
before-same : (os new : List Resting) (chain k n : ℕ) → ((j : ℕ) → j < k → (get_or new j nothing).agent ≡ (get_or os j nothing).agent) → IsBefore os chain k n → IsBefore new chain k n
before-same os new chain k n e b = record {
  within = b.within;
  here = λ j h. ap chain_of (e j (omega (arith, b.within))) ∙ b.here j h;
  between = λ j l w f. b.between j l w (sym (ap chain_of (e j w)) ∙ f);
}

pub zeros : (n i : ℕ) → get_or (replicate n zero) i zero ≡ zero
zeros n i = elim (cases_lt i n) [
  | inl l ↦ get_or-replicate n i zero zero l
  | inr l ↦ get_or_past (replicate n zero) i zero (let long = length-replicate n zero in omega (arith, long))
]

-- the chains of no orders
pub chained_none : IsChained [] [] []
chained_none = record {
  same = refl;
  last = λ chain. record { within = omega arith; here = λ j h. absurd (omega arith); between = λ j l w f. omega arith };
  before = λ k w. absurd (omega arith);
  once = λ j k l w s. absurd (omega arith);
}

-- other vectors of lasts, with the same numbers
pub chained_anew : (os : List Resting) (lasts new befores : List ℕ) → ((chain : ℕ) → get_or new chain 0 ≡ get_or lasts chain 0) → IsChained os lasts befores → IsChained os new befores
chained_anew os lasts new befores e h = record {
  same = h.same;
  last = λ chain. subst (λ n. IsBefore os chain (length os) n) (sym (e chain)) (h.last chain);
  before = h.before;
  once = h.once;
}

-- ---- orders give shares or leave
pub chained_lessened : (os new : List Resting) (lasts befores : List ℕ) → AreLessened os new → IsChained os lasts befores → IsChained new lasts befores
chained_lessened os new lasts befores a h = record {
  same = h.same ∙ sym a.same;
  last = λ chain. subst (λ k. IsBefore new chain k (get_or lasts chain 0)) (sym a.same) (before-same os new chain (length os) (get_or lasts chain 0) (λ j w. (a.each j).agent) (h.last chain));
  before = λ k w. subst (λ (n : ℕ). IsBefore new (chain_of n) k (get_or befores k 0)) (sym (a.each k).agent) (before-same os new (chain_of (get_or os k nothing).agent) k (get_or befores k 0) (λ j v. (a.each j).agent) (h.before k (omega (arith, w, a.same))));
  once = λ j k l w s. (let r = h.once j k l (omega (arith, w, a.same)) (was j k s) in omega (arith, r, (a.each j).left));
}
  where
    was : (j k : ℕ) → is_sent (get_or new k nothing).agent (get_or new k nothing).token.0 (get_or new j nothing) ≡ true → is_sent (get_or os k nothing).agent (get_or os k nothing).token.0 (get_or os j nothing) ≡ true
    was j k s = sym (λ i. eqb ((a.each j).agent i) ((a.each k).agent i) && bytes_eq ((a.each j).token i).0 ((a.each k).token i).0) ∙ s

-- ---- an order joins
pub chained_push : (os : List Resting) (x : Resting) (lasts befores : List ℕ) → chain_of x.agent < length lasts → IsChained os lasts befores → order_of x.agent x.token (open_orders os) ≡ None → IsChained (os ++ x ∷ []) (set lasts (chain_of x.agent) (length os + 1)) (befores ++ get_or lasts (chain_of x.agent) 0 ∷ [])
chained_push os x lasts befores chain_fits h fresh = record { same = same; last = last; before = before; once = once }
  where
    own : ℕ
    own = chain_of x.agent

    all : List Resting
    all = os ++ x ∷ []

    ends : List ℕ
    ends = set lasts own (length os + 1)

    long : length all ≡ length os + 1
    long = length_push os x

    old : (j : ℕ) → j < length os → get_or all j nothing ≡ get_or os j nothing
    old j w = get_or_append_left os (x ∷ []) nothing j w

    new : (j : ℕ) → j ≡ length os → get_or all j nothing ≡ x
    new j e = get_or_push os x nothing j (sym e)

    grown : (chain k n : ℕ) → k ≤ length os → IsBefore os chain k n → IsBefore all chain k n
    grown chain k n l = before-same os all chain k n (λ j w. ap (λ (o : Resting). o.agent) (old j (omega arith)))

    same : length (befores ++ get_or lasts own 0 ∷ []) ≡ length all
    same = length_push befores (get_or lasts own 0) ∙ ap (λ n. n + 1) h.same ∙ sym long

    last : (chain : ℕ) → IsBefore all chain (length all) (get_or ends chain 0)
    last chain = elim (cases_eq chain own) [
      | inl s ↦
          let v : get_or ends chain 0 ≡ length os + 1 = ap (λ c. get_or ends c 0) s ∙ get_or-set_same lasts own (length os + 1) 0 chain_fits in
          record {
            within = omega (arith, v, long);
            here = λ j e. ap (λ (o : Resting). chain_of o.agent) (new j (omega (arith, v, e))) ∙ sym s;
            between = λ j l w. absurd (omega (arith, v, long));
          }
      | inr n ↦
          let b = h.last chain in
          let v : get_or ends chain 0 ≡ get_or lasts chain 0 = get_or-set_other lasts own chain (length os + 1) 0 n in
          subst (λ m. IsBefore all chain (length all) m) (sym v) (record {
            within = omega (arith, b.within, long);
            here = λ j e. ap (λ (o : Resting). chain_of o.agent) (old j (omega (arith, b.within))) ∙ b.here j e;
            between = λ j l w f. elim (cases_eq j (length os)) [
              | inl s ↦ n (sym f ∙ ap (λ (o : Resting). chain_of o.agent) (new j s))
              | inr m ↦
                  let less : j < length os = omega (arith, long) in
                  b.between j l less (sym (ap (λ (o : Resting). chain_of o.agent) (old j less)) ∙ f)
            ];
          })
    ]

    before : (k : ℕ) → k < length all → IsBefore all (chain_of (get_or all k nothing).agent) k (get_or (befores ++ get_or lasts own 0 ∷ []) k 0)
    before k w = elim (cases_lt k (length os)) [
      | inl l ↦
          let v : get_or (befores ++ get_or lasts own 0 ∷ []) k 0 ≡ get_or befores k 0 = get_or_append_left befores (get_or lasts own 0 ∷ []) 0 k (omega (arith, h.same)) in
          let b : IsBefore all (chain_of (get_or all k nothing).agent) k (get_or befores k 0) = subst (λ (o : Resting). IsBefore all (chain_of o.agent) k (get_or befores k 0)) (sym (old k l)) (grown (chain_of (get_or os k nothing).agent) k (get_or befores k 0) (omega arith) (h.before k l)) in
          subst (λ m. IsBefore all (chain_of (get_or all k nothing).agent) k m) (sym v) b
      | inr l ↦
          let e : k ≡ length os = omega (arith, long) in
          let v : get_or (befores ++ get_or lasts own 0 ∷ []) k 0 ≡ get_or lasts own 0 = get_or_push befores (get_or lasts own 0) 0 k (omega (arith, h.same)) in
          let b : IsBefore all (chain_of (get_or all k nothing).agent) k (get_or lasts own 0) = subst (λ (o : Resting). IsBefore all (chain_of o.agent) k (get_or lasts own 0)) (sym (new k e)) (subst (λ m. IsBefore all own m (get_or lasts own 0)) (sym e) (grown own (length os) (get_or lasts own 0) (omega arith) (h.last own))) in
          subst (λ m. IsBefore all (chain_of (get_or all k nothing).agent) k m) (sym v) b
    ]

    gone : (j : ℕ) → j < length os → is_sent x.agent x.token.0 (get_or os j nothing) ≡ true → (get_or os j nothing).left ≡ 0
    gone j w s = elim (cases_eq (get_or os j nothing).left 0) [
      | inl z ↦ z
      | inr m ↦
          let p = λ (o : Resting). is_sent x.agent x.token.0 o in
          let none : p (get_or os j nothing) ≡ false = open_each (λ (o : Resting). p o ≡ false) os j w (omega (arith, m)) (recursion_from_All (λ (o : Resting). p o ≡ false) (open_orders os) (all_differ p (open_orders os) fresh)) in
          absurd (cc (none, s))
    ]

    once : (j k : ℕ) → j < k → k < length all → is_sent (get_or all k nothing).agent (get_or all k nothing).token.0 (get_or all j nothing) ≡ true → (get_or all j nothing).left ≡ 0
    once j k l w s =
        let less : j < length os = omega (arith, long) in
        let s1 : is_sent (get_or all k nothing).agent (get_or all k nothing).token.0 (get_or os j nothing) ≡ true = subst (λ (o : Resting). is_sent (get_or all k nothing).agent (get_or all k nothing).token.0 o ≡ true) (old j less) s in
        ap (λ (o : Resting). o.left) (old j less) ∙ elim (cases_lt k (length os)) [
          | inl b ↦ h.once j k l b (subst (λ (o : Resting). is_sent o.agent o.token.0 (get_or os j nothing) ≡ true) (old k b) s1)
          | inr b ↦ gone j less (subst (λ (o : Resting). is_sent o.agent o.token.0 (get_or os j nothing) ≡ true) (new k (omega (arith, long))) s1)
        ]

-- the same, with other names for what the vectors become
pub chained_joined : (os : List Resting) (x : Resting) (lasts befores new_lasts new_befores : List ℕ) (chain : ℕ) → chain ≡ chain_of x.agent → chain < length lasts → new_befores ≡ befores ++ get_or lasts chain 0 ∷ [] → new_lasts ≡ set lasts chain (length new_befores) → IsChained os lasts befores → order_of x.agent x.token (open_orders os) ≡ None → IsChained (os ++ x ∷ []) new_lasts new_befores
chained_joined os x lasts befores new_lasts new_befores chain own fits b l h fresh =
    let long : length new_befores ≡ length os + 1 = ap (λ (v : List ℕ). length v) b ∙ length_push befores (get_or lasts chain 0) ∙ ap (λ n. n + 1) h.same in
    let l1 : new_lasts ≡ set lasts (chain_of x.agent) (length os + 1) = l ∙ (λ i. set lasts (own i) (long i)) in
    let b1 : new_befores ≡ befores ++ get_or lasts (chain_of x.agent) 0 ∷ [] = b ∙ ap (λ c. befores ++ get_or lasts c 0 ∷ []) own in
    let fits1 : chain_of x.agent < length lasts = subst (λ c. c < length lasts) own fits in
    subst (λ v. IsChained (os ++ x ∷ []) v new_befores) (sym l1) (subst (λ v. IsChained (os ++ x ∷ []) (set lasts (chain_of x.agent) (length os + 1)) v) (sym b1) (chained_push os x lasts befores fits1 h fresh))

-- ---- a search
-- of the orders that an agent sent under a token, open or not, the last stands before a place, and after it there is none
pub record IsLastSent (os : List Resting) (agent : ℕ) (token : List ℕ) (at : ℕ) : Type 0 where
  pub within : at ≤ length os
  pub sent : (k : ℕ) → k + 1 ≡ at → is_sent agent token (get_or os k nothing) ≡ true
  pub after : (k : ℕ) → at ≤ k → k < length os → is_sent agent token (get_or os k nothing) ≡ false

-- a walk along an agent's chain that has come to a place: the order there is of the chain, and after it none is the one that is
-- looked for
pub record IsWalked (os : List Resting) (agent : ℕ) (token : List ℕ) (at : ℕ) : Type 0 where
  pub within : at ≤ length os
  pub own : (k : ℕ) → k + 1 ≡ at → chain_of (get_or os k nothing).agent ≡ chain_of agent
  pub after : (k : ℕ) → at ≤ k → k < length os → is_sent agent token (get_or os k nothing) ≡ false

-- it begins at the last order of the chain
pub walk-begins : (os : List Resting) (lasts befores : List ℕ) (agent : ℕ) (token : List ℕ) → IsChained os lasts befores → IsWalked os agent token (get_or lasts (chain_of agent) 0)
walk-begins os lasts befores agent token h =
    let b = h.last (chain_of agent) in
    record { within = b.within; own = b.here; after = λ k l w. other_chain agent token (get_or os k nothing) (b.between k l w) }

-- and goes on with the one before
pub walk-goes_on : (os : List Resting) (lasts befores : List ℕ) (agent : ℕ) (token : List ℕ) (at : ℕ) → IsChained os lasts befores → IsWalked os agent token at → 0 < at → ((k : ℕ) → k + 1 ≡ at → is_sent agent token (get_or os k nothing) ≡ false) → (get_or befores (at - 1) 0 < at) × IsWalked os agent token (get_or befores (at - 1) 0)
walk-goes_on os lasts befores agent token at h w some pass = (omega (arith, b.within), record { within = omega (arith, b.within, w.within); own = λ k e. b.here k e ∙ own; after = after })
  where
    b : IsBefore os (chain_of (get_or os (at - 1) nothing).agent) (at - 1) (get_or befores (at - 1) 0)
    b = h.before (at - 1) (omega (arith, w.within))

    own : chain_of (get_or os (at - 1) nothing).agent ≡ chain_of agent
    own = w.own (at - 1) (omega arith)

    after : (k : ℕ) → get_or befores (at - 1) 0 ≤ k → k < length os → is_sent agent token (get_or os k nothing) ≡ false
    after k l v = elim (cases_lt k (at - 1)) [
      | inl less ↦ other_chain agent token (get_or os k nothing) (λ f. b.between k l less (f ∙ sym own))
      | inr more ↦ elim (cases_eq k (at - 1)) [
        | inl e ↦ pass k (omega arith)
        | inr n ↦ w.after k (omega arith) v
      ]
    ]

both_true : (a b : Bool) → (a && b) ≡ true → (a ≡ true) × (b ≡ true)
both_true true b h = (refl, h)
both_true false b h = absurd (cc h)

-- two orders that an agent sent under one token
same_sent : (agent : ℕ) (token : List ℕ) (o x : Resting) → is_sent agent token o ≡ true → is_sent agent token x ≡ true → is_sent x.agent x.token.0 o ≡ true
same_sent agent token o x e f =
    let oe = both_true (eqb o.agent agent) (bytes_eq o.token.0 token) e in
    let xe = both_true (eqb x.agent agent) (bytes_eq x.token.0 token) f in
    let a : o.agent ≡ x.agent = eqb-true o.agent agent oe.0 ∙ sym (eqb-true x.agent agent xe.0) in
    let t : o.token.0 ≡ x.token.0 = (bytes_eq-Decides o.token.0 token).0 oe.1 ∙ sym ((bytes_eq-Decides x.token.0 token).0 xe.1) in
    rw (eq-eqb o.agent x.agent a) ((bytes_eq-Decides o.token.0 x.token.0).1 t)

-- no open order is before or after the last one that was sent
others_left : (os : List Resting) (lasts befores : List ℕ) (agent : ℕ) (token : List ℕ) (place : ℕ) → IsChained os lasts befores → IsLastSent os agent token (place + 1) → (k : ℕ) → k < length os → 0 < (get_or os k nothing).left → is_sent agent token (get_or os k nothing) ≡ true → k ≡ place
others_left os lasts befores agent token place h a k w l s = elim (cases_lt k place) [
  | inl less ↦
      let z = h.once k place less (omega (arith, a.within)) (same_sent agent token (get_or os k nothing) (get_or os place nothing) s (a.sent place refl)) in
      absurd (omega (arith, z))
  | inr more ↦ elim (cases_eq k place) [
    | inl e ↦ e
    | inr n ↦ (let f = a.after k (omega arith) w in absurd (cc (f, s)))
  ]
]

pub none_sent : (os : List Resting) (agent : ℕ) (token : List ℕ) → IsLastSent os agent token 0 → find (is_sent agent token) (open_orders os) ≡ None
none_sent os agent token a = find_nobody (is_sent agent token) os (λ k w l s. (let f = a.after k (omega arith) w in absurd (cc (f, s))))

pub sent_left : (os : List Resting) (lasts befores : List ℕ) (agent : ℕ) (token : List ℕ) (place : ℕ) → IsChained os lasts befores → IsLastSent os agent token (place + 1) → (get_or os place nothing).left ≡ 0 → find (is_sent agent token) (open_orders os) ≡ None
sent_left os lasts befores agent token place h a z = find_nobody (is_sent agent token) os (λ k w l s.
    (let e = others_left os lasts befores agent token place h a k w l s in omega (arith, l, z, ap (λ j. (get_or os j nothing).left) e)))

pub sent_found : (os : List Resting) (lasts befores : List ℕ) (agent : ℕ) (token : List ℕ) (place : ℕ) → IsChained os lasts befores → IsLastSent os agent token (place + 1) → 0 < (get_or os place nothing).left → find (is_sent agent token) (open_orders os) ≡ Some (get_or os place nothing)
sent_found os lasts befores agent token place h a l =
    find_only (is_sent agent token) os place (omega (arith, a.within)) l (a.sent place refl) (λ k w m s. others_left os lasts befores agent token place h a k w m s)
