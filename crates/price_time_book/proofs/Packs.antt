-- Lemmas on a book that is made anew from its open orders.
use Rattle.std.proofs.Common.{◌≡◌, ◌≢◌, ℕ, ◌<◌, ◌≤◌, true, false, cond, eqb, List, [], ◌∷◌, ◌++◌, length, get_or, take, drop, refl, ap, arith, suc, zero, subst, length-append}
use Rattle.std.specs.List.{AllByRecursion}
use Rattle.std.proofs.lemmas.Bool.{eq-eqb, ne_eqb}
use Rattle.std.proofs.lemmas.List.Elements.{All-from_recursion}
use Rattle.price_time_book.specs.declared.resting.Resting.{Resting}
use Rattle.price_time_book.specs.Awaited.{AreAwaited}
use Rattle.price_time_book.specs.Chains.{IsChained, is_sent}
use Rattle.price_time_book.specs.Indexed.{nothing, open_orders}
use Rattle.price_time_book.specs.Orderly.{IsOrderly, IsRising}
use Rattle.price_time_book.proofs.Indexes.{find_nobody}
use Rattle.price_time_book.proofs.Lowers.{open_each}

-- the open orders are those before a place, the one there and those after it
pub open-split : (os : List Resting) (i : ℕ) → i < length os → (get_or os i nothing).left ≢ 0 → open_orders os ≡ open_orders (take i os) ++ get_or os i nothing ∷ open_orders (drop (suc i) os)
open-split [] i h n = absurd (omega arith)
open-split (o ∷ os) zero h n = let t : eqb o.left 0 ≡ false = ne_eqb o.left 0 n in rw t refl
open-split (o ∷ os) (suc i) h n =
    let rest = open-split os i (omega arith) n in
    elim (eqb o.left 0) as (λ b. cond b (open_orders os) (o ∷ open_orders os) ≡ cond b (open_orders (take i os)) (o ∷ open_orders (take i os)) ++ get_or os i nothing ∷ open_orders (drop (suc i) os)) [ true ↦ rest | false ↦ ap (λ v. o ∷ v) rest ]

-- one more order of the vector, open or not
pub open-more : (os : List Resting) (i : ℕ) → i < length os → (get_or os i nothing).left ≢ 0 → open_orders (take (suc i) os) ≡ open_orders (take i os) ++ get_or os i nothing ∷ []
open-more [] i h n = absurd (omega arith)
open-more (o ∷ os) zero h n = let t : eqb o.left 0 ≡ false = ne_eqb o.left 0 n in rw t refl
open-more (o ∷ os) (suc i) h n =
    let rest = open-more os i (omega arith) n in
    elim (eqb o.left 0) as (λ b. cond b (open_orders (take (suc i) os)) (o ∷ open_orders (take (suc i) os)) ≡ cond b (open_orders (take i os)) (o ∷ open_orders (take i os)) ++ get_or os i nothing ∷ []) [ true ↦ rest | false ↦ ap (λ v. o ∷ v) rest ]

pub open-same : (os : List Resting) (i : ℕ) → i < length os → (get_or os i nothing).left ≡ 0 → open_orders (take (suc i) os) ≡ open_orders (take i os)
open-same [] i h z = absurd (omega arith)
open-same (o ∷ os) zero h z = let t : eqb o.left 0 ≡ true = eq-eqb o.left 0 z in rw t refl
open-same (o ∷ os) (suc i) h z =
    let rest = open-same os i (omega arith) z in
    elim (eqb o.left 0) as (λ b. cond b (open_orders (take (suc i) os)) (o ∷ open_orders (take (suc i) os)) ≡ cond b (open_orders (take i os)) (o ∷ open_orders (take i os))) [ true ↦ rest | false ↦ ap (λ v. o ∷ v) rest ]

before_rising : (w v : List Resting) (o : Resting) → IsRising (w ++ o ∷ v) → AllByRecursion (λ (x : Resting). x.reference < o.reference) w
before_rising [] v o r = tt
before_rising (x ∷ w) v o r = (head w r.0, before_rising w v o r.1)
  where
    head : (w : List Resting) → AllByRecursion (λ (y : Resting). x.reference < y.reference) (w ++ o ∷ v) → x.reference < o.reference
    head [] a = a.0
    head (y ∷ w) a = head w a.1

get-take : (os : List Resting) (i k : ℕ) → k < i → get_or (take i os) k nothing ≡ get_or os k nothing
get-take os zero k h = absurd (omega arith)
get-take [] (suc i) k h = refl
get-take (o ∷ os) (suc i) zero h = refl
get-take (o ∷ os) (suc i) (suc k) h = get-take os i k (omega arith)

length_le-take : (os : List Resting) (i : ℕ) → (length (take i os) ≤ i) × (length (take i os) ≤ length os)
length_le-take os zero = (omega arith, omega arith)
length_le-take [] (suc i) = (omega arith, omega arith)
length_le-take (o ∷ os) (suc i) = let r = length_le-take os i in (omega (arith, r.0), omega (arith, r.1))

pub awaited : (os : List Resting) (lasts befores : List ℕ) → IsChained os lasts befores → IsOrderly (open_orders os) → AreAwaited os
awaited os lasts befores x h i within n =
    let o = get_or os i nothing in
    let live : 0 < o.left = omega (arith, n) in
    let split = open-split os i within n in
    let later = before_rising (open_orders (take i os)) (open_orders (drop (suc i) os)) o (subst IsRising split h.rising) in
    record {
      few = omega (arith, ap (λ (w : List Resting). length w) split, length-append (open_orders (take i os)) (o ∷ open_orders (drop (suc i) os)));
      shares = live;
      intended = open_each (λ (y : Resting). y.left ≤ y.intended) os i within live h.within;
      later = All-from_recursion (λ (y : Resting). y.reference < o.reference) (open_orders (take i os)) later;
      fresh = find_nobody (is_sent o.agent o.token.0) (take i os) (λ k b l e.
          let long = length_le-take os i in
          let less : k < i = omega (arith, long.0, b) in
          let same : get_or (take i os) k nothing ≡ get_or os k nothing = get-take os i k less in
          let open_there : 0 < (get_or os k nothing).left = subst (λ (y : Resting). 0 < y.left) same l in
          let sent : is_sent o.agent o.token.0 (get_or os k nothing) ≡ true = subst (λ (y : Resting). is_sent o.agent o.token.0 y ≡ true) same e in
          let gone : (get_or os k nothing).left ≡ 0 = x.once k i less within sent in
          omega arith);
    }
