-- How many open orders a side has, and what stays of orders that give shares.
use Rattle.std.proofs.Common.{◌≡◌, ◌≢◌, ℕ, ◌+◌, ◌<◌, Bool, true, false, cond, eqb, List, [], ◌∷◌, ◌++◌, length, get_or, set, refl, ap, ◌∙◌, arith, inl, inr, suc, zero}
use Rattle.std.proofs.lemmas.Bool.{cases_Bool, eq-eqb, ne_eqb}
use Rattle.std.proofs.lemmas.List.Sums.{sum_by-append, sum_by-cons}
use Rattle.market_types.specs.declared.order.Side.{Side}
use Rattle.price_time_book.specs.declared.resting.Resting.{Resting}
use Rattle.price_time_book.specs.Indexed.{nothing, open_orders}
use Rattle.price_time_book.specs.Sides.{depth_of, is_on, is_same_side}
use Rattle.price_time_book.proofs.Firsts.{same_itself, side_same}
use Rattle.price_time_book.proofs.Lowers.{with_left}

abbrev one_at : Side → Resting → ℕ
one_at s o = cond (eqb o.left 0) 0 (cond (is_on s o) 1 0)

depth-open : (s : Side) (o : Resting) (os : List Resting) → depth_of s (open_orders (o ∷ os)) ≡ one_at s o + depth_of s (open_orders os)
depth-open s o os = elim (eqb o.left 0) as (λ b. depth_of s (cond b (open_orders os) (o ∷ open_orders os)) ≡ cond b 0 (cond (is_on s o) 1 0) + depth_of s (open_orders os)) [
  | true ↦ omega arith
  | false ↦ sum_by-cons (λ (x : Resting). cond (is_on s x) 1 0) o (open_orders os)
]

depth-set : (s : Side) (os : List Resting) (i : ℕ) (x : Resting) → i < length os → depth_of s (open_orders (set os i x)) + one_at s (get_or os i nothing) ≡ depth_of s (open_orders os) + one_at s x
depth-set s [] i x h = absurd (omega arith)
depth-set s (o ∷ os) zero x h = omega (arith, depth-open s x os, depth-open s o os)
depth-set s (o ∷ os) (suc i) x h = omega (arith, depth-open s o (set os i x), depth-open s o os, depth-set s os i x (omega arith))

pub depth-push : (s : Side) (w : List Resting) (x : Resting) → depth_of s (w ++ x ∷ []) ≡ depth_of s w + cond (is_on s x) 1 0
depth-push s w x =
    let more : depth_of s (w ++ x ∷ []) ≡ depth_of s w + (0 + cond (is_on s x) 1 0) = sum_by-append (λ (o : Resting). cond (is_on s o) 1 0) w (x ∷ []) in
    omega (arith, more)

pub depth-push_on : (s : Side) (w : List Resting) (x : Resting) → x.side ≡ s → depth_of s (w ++ x ∷ []) ≡ depth_of s w + 1
depth-push_on s w x e = depth-push s w x ∙ ap (λ b. depth_of s w + cond b 1 0) (ap (λ a. is_same_side a s) e ∙ same_itself s)

off_side : (a s : Side) → a ≢ s → is_same_side a s ≡ false
off_side a s n = elim (cases_Bool (is_same_side a s)) [ inl h ↦ absurd (n (side_same a s h)) | inr h ↦ h ]

pub depth-push_off : (s : Side) (w : List Resting) (x : Resting) → x.side ≢ s → depth_of s (w ++ x ∷ []) ≡ depth_of s w
depth-push_off s w x n = depth-push s w x ∙ ap (λ b. depth_of s w + cond b 1 0) (off_side x.side s n) ∙ omega arith

-- an order keeps some open shares
pub depth_kept : (s : Side) (os new : List Resting) (i v w : ℕ) → i < length os → 0 < (get_or os i nothing).left → v ≢ 0 → new ≡ with_left os i v w → depth_of s (open_orders new) ≡ depth_of s (open_orders os)
depth_kept s os new i v w h some more is =
    let x : Resting = record (get_or os i nothing) { left = v; intended = w } in
    let t : eqb v 0 ≡ false = ne_eqb v 0 more in
    let u : eqb (get_or os i nothing).left 0 ≡ false = ne_eqb (get_or os i nothing).left 0 (omega (arith, some)) in
    let a : one_at s x ≡ cond (is_on s (get_or os i nothing)) 1 0 = rw t refl in
    let b : one_at s (get_or os i nothing) ≡ cond (is_on s (get_or os i nothing)) 1 0 = rw u refl in
    ap (λ w. depth_of s (open_orders w)) is ∙ omega (arith, depth-set s os i x h, a, b)

-- an order leaves
pub depth_left : (s : Side) (os new : List Resting) (i v w : ℕ) → i < length os → 0 < (get_or os i nothing).left → (get_or os i nothing).side ≡ s → v ≡ 0 → new ≡ with_left os i v w → depth_of s (open_orders new) + 1 ≡ depth_of s (open_orders os)
depth_left s os new i v w h some on none is =
    let x : Resting = record (get_or os i nothing) { left = v; intended = w } in
    let t : eqb v 0 ≡ true = eq-eqb v 0 none in
    let u : eqb (get_or os i nothing).left 0 ≡ false = ne_eqb (get_or os i nothing).left 0 (omega (arith, some)) in
    let y : is_on s (get_or os i nothing) ≡ true = ap (λ a. is_same_side a s) on ∙ same_itself s in
    let a : one_at s x ≡ 0 = rw t refl in
    let b : one_at s (get_or os i nothing) ≡ 1 = rw (u, y) refl in
    let e : depth_of s (open_orders new) ≡ depth_of s (open_orders (with_left os i v w)) = ap (λ w. depth_of s (open_orders w)) is in
    omega (arith, e, depth-set s os i x h, a, b)

off_zero : (b c : Bool) → c ≡ false → cond {A = ℕ} b 0 (cond c 1 0) ≡ 0
off_zero true c e = refl
off_zero false c e = ap (λ d. cond {A = ℕ} d 1 0) e

-- an order of the other side gives shares
pub depth_other : (s : Side) (os new : List Resting) (i v w : ℕ) → i < length os → (get_or os i nothing).side ≢ s → new ≡ with_left os i v w → depth_of s (open_orders new) ≡ depth_of s (open_orders os)
depth_other s os new i v w h off is =
    let x : Resting = record (get_or os i nothing) { left = v; intended = w } in
    let y : is_on s (get_or os i nothing) ≡ false = off_side (get_or os i nothing).side s off in
    let a : one_at s x ≡ 0 = off_zero (eqb v 0) (is_on s (get_or os i nothing)) y in
    let b : one_at s (get_or os i nothing) ≡ 0 = off_zero (eqb (get_or os i nothing).left 0) (is_on s (get_or os i nothing)) y in
    ap (λ w. depth_of s (open_orders w)) is ∙ omega (arith, depth-set s os i x h, a, b)
