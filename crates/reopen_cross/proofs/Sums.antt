-- The shares of the orders that pass a test.
use Rattle.std.proofs.Common.{◌≡◌, ◌≤◌, ℕ, Bool, true, false, cond, List, [], ◌∷◌, refl, arith, sum_by, filter}
use Rattle.std.specs.Prelude.{◌&&◌, nat_le}
use Rattle.std.proofs.lemmas.Bool.Decides.{nat_tests}
use Rattle.std.proofs.lemmas.List.Sums.{sum_by-cons}
use Rattle.market_types.specs.declared.order.Side.TheVariants.{Buy, Sell}
use Rattle.market_types.specs.Sides.{is_same_side}
use Rattle.reopen_cross.specs.declared.cross.Interest.{Interest}
use Rattle.reopen_cross.specs.Cross.{buys, sells}

abbrev passed : (Interest → Bool) → List Interest → ℕ
passed test list = sum_by (λ (o : Interest). o.left) (filter test list)

-- what passes one test passes the other
abbrev Implies : Bool → Bool → Type 0
Implies a b = a ≡ true → b ≡ true

abbrev left-of : Interest → ℕ
left-of o = o.left

one-more : (a b : Bool) (o : Interest) (xs ys : List Interest) → Implies a b
    → sum_by left-of xs ≤ sum_by left-of ys
    → sum_by left-of (cond a (o ∷ xs) xs) ≤ sum_by left-of (cond b (o ∷ ys) ys)
one-more true true o xs ys i h = omega (arith, h, sum_by-cons left-of o xs, sum_by-cons left-of o ys)
one-more true false o xs ys i h = absurd (cc (i refl))
one-more false true o xs ys i h = omega (arith, h, sum_by-cons left-of o ys)
one-more false false o xs ys i h = h

pub passed-more : (p q : Interest → Bool) → ((o : Interest) → Implies (p o) (q o)) → (list : List Interest) → passed p list ≤ passed q list
passed-more p q i [] = omega arith
passed-more p q i (o ∷ os) = one-more (p o) (q o) o (filter p os) (filter q os) (i o) (passed-more p q i os)

both-of : (a b c : Bool) → Implies b c → Implies (a && b) (a && c)
both-of true b c i h = i h
both-of false b c i h = h

at-least : (p q n : ℕ) → p ≤ q → Implies (nat_le q n) (nat_le p n)
at-least p q n h t = grind (arith, nat_tests)

at-most : (p q n : ℕ) → p ≤ q → Implies (nat_le n p) (nat_le n q)
at-most p q n h t = grind (arith, nat_tests)

pub buys-fall : (list : List Interest) (p q : ℕ) → p ≤ q → buys list q ≤ buys list p
buys-fall list p q h = passed-more _ _ (λ o. both-of (is_same_side o.side Buy) (nat_le q o.price) (nat_le p o.price) (at-least p q o.price h)) list

pub sells-rise : (list : List Interest) (p q : ℕ) → p ≤ q → sells list p ≤ sells list q
sells-rise list p q h = passed-more _ _ (λ o. both-of (is_same_side o.side Sell) (nat_le o.price p) (nat_le o.price q) (at-most p q o.price h)) list
