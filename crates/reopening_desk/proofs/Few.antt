-- No more orders trade than there are.
use Rattle.std.proofs.Common.{◌≡◌, ◌≤◌, ◌<◌, ℕ, zero, suc, ◌+◌, ◌-◌, ◌==◌, ◌&&◌, min, true, false, cond, not, eqb, List, [], ◌∷◌, length, length-append, filter, Option, None, Some, ap, inl, inr, arith}
use Rattle.std.specs.List.{best_of}
use Rattle.std.proofs.lemmas.Bool.{eq-eqb}
use Rattle.market_types.specs.declared.order.Side.{Side}
use Rattle.market_types.specs.declared.order.Side.TheVariants.{Buy, Sell}
use Rattle.market_types.specs.Sides.{is_same_side}
use Rattle.reopen_cross.specs.declared.cross.Interest.{Interest}
use Rattle.reopen_cross.specs.declared.cross.Cross.{Cross}
use Rattle.reopen_cross.specs.Parts.{filled, is_ahead, is_within, others, part_of, parts_on, takes_part}
use Rattle.reopen_cross.proofs.Filled.{In, best-in, shorter-filter}
use Rattle.reopening_desk.specs.Reopened.{parts_in}

-- an order of a list is not among the others
fewer : (f : Interest) (os : List Interest) → In f os → length (others f.reference os) < length os
fewer f [] i = absurd i
fewer f (x ∷ os) (inl e) =
    let same : eqb x.reference f.reference ≡ true = eq-eqb x.reference f.reference (ap (λ (y : Interest). y.reference) e) in
    let gone : others f.reference (x ∷ os) ≡ others f.reference os = ap (λ b. cond (not b) (x ∷ others f.reference os) (others f.reference os)) same in
    omega (arith, ap length gone, shorter-filter (λ (o : Interest). not (eqb o.reference f.reference)) os)
fewer f (x ∷ os) (inr i) =
    let rest = fewer f os i in
    elim (eqb x.reference f.reference) as (λ b. length (cond (not b) (x ∷ others f.reference os) (others f.reference os)) < suc (length os)) [
      | true ↦ omega (arith, rest)
      | false ↦ omega (arith, rest)
    ]

filled-few : (n : ℕ) (side : Side) (wanted : ℕ) (os : List Interest) → length (filled n side wanted os) ≤ length os
filled-few zero side wanted os = omega arith
filled-few (suc n) side wanted [] = omega arith
filled-few (suc n) side wanted (o ∷ os) =
    let f = best_of (is_ahead side) o os in
    let left : ℕ = wanted - min f.left wanted in
    let rest = filled-few n side left (others f.reference (o ∷ os)) in
    let less = fewer f (o ∷ os) (best-in (is_ahead side) o os) in
    elim (wanted == 0) as (λ b. length (cond b [] (part_of wanted f ∷ filled n side left (others f.reference (o ∷ os)))) ≤ suc (length os)) [
      | true ↦ omega arith
      | false ↦ omega (arith, rest, less)
    ]

-- no order is of both sides
apart : (p : ℕ) (os : List Interest) → length (filter (takes_part Buy p) os) + length (filter (takes_part Sell p) os) ≤ length os
apart p [] = omega arith
apart p (o ∷ os) = one o.side (apart p os)
  where
    one : (side : Side) → length (filter (takes_part Buy p) os) + length (filter (takes_part Sell p) os) ≤ length os
        → length (cond (is_same_side side Buy && is_within Buy p o.price) (o ∷ filter (takes_part Buy p) os) (filter (takes_part Buy p) os))
        + length (cond (is_same_side side Sell && is_within Sell p o.price) (o ∷ filter (takes_part Sell p) os) (filter (takes_part Sell p) os)) ≤ suc (length os)
    one Buy rest =
        elim (is_within Buy p o.price) as (λ b. length (cond b (o ∷ filter (takes_part Buy p) os) (filter (takes_part Buy p) os)) + length (filter (takes_part Sell p) os) ≤ suc (length os)) [
          | true ↦ omega (arith, rest)
          | false ↦ omega (arith, rest)
        ]
    one Sell rest =
        elim (is_within Sell p o.price) as (λ b. length (filter (takes_part Buy p) os) + length (cond b (o ∷ filter (takes_part Sell p) os) (filter (takes_part Sell p) os)) ≤ suc (length os)) [
          | true ↦ omega (arith, rest)
          | false ↦ omega (arith, rest)
        ]

pub parts-few : (list : List Interest) (cross : Option Cross) → length (parts_in list cross) ≤ length list
parts-few list None = omega arith
parts-few list (Some c) = omega (
  arith,
  length-append (parts_on Buy list c) (parts_on Sell list c),
  filled-few (length list) Buy c.shares (filter (takes_part Buy c.price) list),
  filled-few (length list) Sell c.shares (filter (takes_part Sell c.price) list),
  apart c.price list,
)
