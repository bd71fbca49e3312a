-- The shares of a side by price.
use Rattle.std.proofs.Common.{◌≡◌, ◌≤◌, ℕ, zero, suc, ◌+◌, Bool, true, false, cond, not, ltb, leb, List, [], ◌∷◌, All, length, get_or, take, refl, sym, ap, ◌∙◌, arith, sum_by, filter}
use Rattle.std.specs.Prelude.{◌&&◌}
use Rattle.std.specs.List.{AllWithin}
use Rattle.std.specs.List.Sorted.{IsPermutation, IsPartitionPoint}
use Rattle.std.proofs.lemmas.Bool.Decides.{nat_tests}
use Rattle.std.proofs.lemmas.List.{get_or_read, take_all}
use Rattle.std.proofs.lemmas.List.Elements.{All-filter}
use Rattle.std.proofs.lemmas.List.Filters.{sum_by-filter_both}
use Rattle.std.proofs.lemmas.List.Sorted.{All-permutation, length_permutation, sum_by-IsPermutation}
use Rattle.std.proofs.lemmas.List.Sums.{sum_by-cons}
use Rattle.market_types.specs.declared.order.Side.{Side}
use Rattle.market_types.specs.declared.order.Side.TheVariants.{Buy, Sell}
use Rattle.market_types.specs.Sides.{is_same_side}
use Rattle.reopen_cross.specs.declared.cross.Interest.{Interest}
use Rattle.reopen_cross.specs.Ladders.{AreOf, AreSums, from, up_to}
use Rattle.reopen_cross.specs.Tallies.{shares_at}
use Rattle.reopen_cross.proofs.Adds.{passed-cons}
use Rattle.reopen_cross.proofs.Filled.{shorter-filter}

abbrev left-of : Interest → ℕ
left-of o = o.left

-- the shares that pass, as a sum over all
passed-sum : (t : Interest → Bool) (os : List Interest) → sum_by left-of (filter t os) ≡ sum_by (λ (o : Interest). cond (t o) o.left 0) os
passed-sum t [] = refl
passed-sum t (o ∷ os) = omega (arith, passed-cons t o os, passed-sum t os, sum_by-cons (λ (x : Interest). cond (t x) x.left 0) o os)

-- they are the same in any order
passed-moved : (t : Interest → Bool) (os ws : List Interest) → IsPermutation os ws → sum_by left-of (filter t ws) ≡ sum_by left-of (filter t os)
passed-moved t os ws h = passed-sum t ws ∙ sum_by-IsPermutation (λ (o : Interest). cond (t o) o.left 0) os ws h ∙ sym (passed-sum t os)

filter-twice : (s t : Interest → Bool) (os : List Interest) → filter (λ (o : Interest). s o && t o) os ≡ filter t (filter s os)
filter-twice s t [] = refl
filter-twice s t (o ∷ os) = step (s o) (filter (λ (x : Interest). s x && t x) os) (filter-twice s t os)
  where
    step : (a : Bool) (v : List Interest) → v ≡ filter t (filter s os) → cond (a && t o) (o ∷ v) v ≡ filter t (cond a (o ∷ filter s os) (filter s os))
    step true v e = ap (λ w. cond (t o) (o ∷ w) w) e
    step false v e = e

-- where all that pass stand before all that fail
at-point : (t : Interest → Bool) (os : List Interest) (i : ℕ) → AllWithin (λ (o : Interest). t o ≡ true) os 0 i → AllWithin (λ (o : Interest). t o ≡ false) os i (length os) → i ≤ length os → filter t os ≡ take i os
at-point t [] zero front back w = refl
at-point t [] (suc i) front back w = absurd (omega arith)
at-point t (o ∷ os) zero front back w =
    ap (λ b. cond b (o ∷ filter t os) (filter t os)) (back 0 o (omega arith) (omega arith))
    ∙ at-point t os zero (λ k d l h. absurd (omega arith)) (λ k d l h. back (suc k) d (omega arith) (omega (arith, h))) (omega arith)
    ∙ nothing os
  where
    nothing : (w : List Interest) → take 0 w ≡ []
    nothing [] = refl
    nothing (x ∷ w) = refl
at-point t (o ∷ os) (suc i) front back w =
    ap (λ b. cond b (o ∷ filter t os) (filter t os)) (front 0 o (omega arith) (omega arith))
    ∙ ap (λ v. o ∷ v) (at-point t os i (λ k d l h. front (suc k) d (omega arith) (omega (arith, h))) (λ k d l h. back (suc k) d (omega (arith, l)) (omega (arith, h))) (omega (arith, w)))

pub up-to-is : (p : ℕ) (os : List Interest) (i : ℕ) → i ≤ length os → IsPartitionPoint (λ (o : Interest). leb o.price p ≡ true) (λ (o : Interest). leb o.price p ≡ false) os i → sum_by left-of (take i os) ≡ up_to p os
up-to-is p os i w h = ap (sum_by left-of) (sym (at-point (λ (o : Interest). leb o.price p) os i h.0 h.1 w))

-- what passes a test and what fails it
both-sums : (t u : Interest → Bool) → ((o : Interest) → u o ≡ not (t o)) → (os : List Interest) → sum_by left-of (filter t os) + sum_by left-of (filter u os) ≡ sum_by left-of os
both-sums t u other os = sum_by-filter_both t u other left-of os

not-lower : (a p : ℕ) → leb p a ≡ not (ltb a p)
not-lower a p = grind (arith, nat_tests)

pub from-is : (p : ℕ) (os : List Interest) (i : ℕ) → i ≤ length os → IsPartitionPoint (λ (o : Interest). ltb o.price p ≡ true) (λ (o : Interest). ltb o.price p ≡ false) os i → sum_by left-of (take i os) + from p os ≡ sum_by left-of os
from-is p os i w h = omega (arith, ap (sum_by left-of) (at-point (λ (o : Interest). ltb o.price p) os i h.0 h.1 w), both-sums (λ (o : Interest). ltb o.price p) (λ (o : Interest). leb p o.price) (λ o. not-lower o.price p) os)

-- a side's orders by price have its shares
pub buys-by-price : (list orders : List Interest) (p : ℕ) → AreOf Buy list orders → from p orders ≡ shares_at Buy list p
buys-by-price list orders p h = passed-moved (λ (o : Interest). leb p o.price) (filter (λ (o : Interest). is_same_side o.side Buy) list) orders h ∙ ap (sum_by left-of) (sym (filter-twice (λ (o : Interest). is_same_side o.side Buy) (λ (o : Interest). leb p o.price) list))

pub sells-by-price : (list orders : List Interest) (p : ℕ) → AreOf Sell list orders → up_to p orders ≡ shares_at Sell list p
sells-by-price list orders p h = passed-moved (λ (o : Interest). leb o.price p) (filter (λ (o : Interest). is_same_side o.side Sell) list) orders h ∙ ap (sum_by left-of) (sym (filter-twice (λ (o : Interest). is_same_side o.side Sell) (λ (o : Interest). leb o.price p) list))

-- a side's orders are few and small
pub few-of : (side : Side) (list orders : List Interest) → length list ≤ 32768 → AreOf side list orders → length orders ≤ 32768
few-of side list orders few h = omega (arith, length_permutation (filter (λ (o : Interest). is_same_side o.side side) list) orders h, shorter-filter (λ (o : Interest). is_same_side o.side side) list)

pub small-of : (side : Side) (list orders : List Interest) → All (λ (o : Interest). o.left ≤ 999999) list → AreOf side list orders → All (λ (o : Interest). o.left ≤ 999999) orders
small-of side list orders small h = All-permutation (λ (o : Interest). o.left ≤ 999999) (filter (λ (o : Interest). is_same_side o.side side) list) orders h (All-filter (λ (o : Interest). is_same_side o.side side) (λ (o : Interest). o.left ≤ 999999) list small)

-- what is read at the end and at a number differs by what stands from there on
pub differ : (orders : List Interest) (sums : List ℕ) (len n a b f : ℕ) → AreSums orders sums → len ≡ length orders → n ≤ length orders → a ≡ get_or sums len a → b ≡ get_or sums n b → sum_by left-of (take n orders) + f ≡ sum_by left-of orders → a ≡ b + f
differ orders sums len n a b f are el w ha hb h =
    let ra : a ≡ get_or sums len 0 = get_or_read sums len a (omega (arith, are.long, el)) ha 0 in
    let rb : b ≡ get_or sums n 0 = get_or_read sums n b (omega (arith, are.long, w)) hb 0 in
    let whole : take len orders ≡ orders = take_all len orders (omega (arith, el)) in
    omega (arith, ra, rb, are.each len (omega (arith, el)), are.each n w, ap (sum_by left-of) whole, h)
