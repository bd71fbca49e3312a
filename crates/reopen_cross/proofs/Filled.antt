-- What a side trades in all.
use Rattle.std.proofs.Common.{◌≡◌, ◌⊎◌, ◌≤◌, ◌<◌, ℕ, zero, suc, ◌+◌, ◌-◌, min, Bool, true, false, cond, not, eqb, List, [], ◌∷◌, length, refl, sym, ap, ◌∙◌, subst, inl, inr, arith, sum_by, filter}
use Rattle.std.specs.List.{AllByRecursion, best_of}
use Rattle.std.proofs.lemmas.Bool.{cases_Bool, cases_eq, eq-eqb, ne_eqb}
use Rattle.std.proofs.lemmas.List.Sums.{sum_by-cons}
use Rattle.market_types.specs.declared.order.Side.{Side}
use Rattle.reopen_cross.specs.declared.cross.Interest.{Interest}
use Rattle.reopen_cross.specs.declared.cross.Part.{Part}
use Rattle.reopen_cross.specs.Orderly.{IsRising}
use Rattle.reopen_cross.specs.Parts.{is_ahead, others, part_of, filled}

abbrev left-of : Interest → ℕ
left-of o = o.left

abbrev shares-of : Part → ℕ
shares-of x = x.shares

abbrev pub In : Interest → List Interest → Type 0
In f [] = ⊥
In f (x ∷ w) = (x ≡ f) ⊎ In f w

pub best-in : (beats : Interest → Interest → Bool) (b : Interest) (w : List Interest) → In (best_of beats b w) (b ∷ w)
best-in beats b [] = inl refl
best-in beats b (x ∷ w) =
    elim (cases_Bool (beats x b)) [
      | inl h ↦ subst (λ (y : Interest). In (best_of beats y w) (b ∷ (x ∷ w))) (sym (ap (λ c. cond c x b) h)) (inr (best-in beats x w))
      | inr h ↦ subst (λ (y : Interest). In (best_of beats y w) (b ∷ (x ∷ w))) (sym (ap (λ c. cond c x b) h)) (later (best_of beats b w) (best-in beats b w))
    ]
  where
    later : (f : Interest) → In f (b ∷ w) → In f (b ∷ (x ∷ w))
    later f (inl e) = inl e
    later f (inr i) = inr (inr i)

pub all-in : (P : Interest → Type 0) (f : Interest) (w : List Interest) → AllByRecursion P w → In f w → P f
all-in P f [] a i = absurd i
all-in P f (x ∷ w) a (inl e) = subst P e a.0
all-in P f (x ∷ w) a (inr i) = all-in P f w a.1 i

keep-all : (r : ℕ) (w : List Interest) → AllByRecursion (λ (o : Interest). r < o.reference) w → others r w ≡ w
keep-all r [] a = refl
keep-all r (x ∷ w) a =
    let t : eqb x.reference r ≡ false = ne_eqb x.reference r (λ e. omega (arith, e, a.0)) in
    ap (λ b. cond (not b) (x ∷ others r w) (others r w)) t ∙ ap (λ v. x ∷ v) (keep-all r w a.1)

-- an order leaves with its shares
pub record IsWithout (f : Interest) (os : List Interest) : Type 0 where
  pub shares : sum_by left-of (others f.reference os) + f.left ≡ sum_by left-of os
  pub fewer : length (others f.reference os) + 1 ≡ length os

without : (f : Interest) (os : List Interest) → IsRising os → In f os → IsWithout f os
without f [] r i = absurd i
without f (x ∷ w) r (inl e) =
    let t : eqb x.reference f.reference ≡ true = eq-eqb x.reference f.reference (ap (λ (y : Interest). y.reference) e) in
    let gone : others f.reference (x ∷ w) ≡ w = ap (λ b. cond (not b) (x ∷ others f.reference w) (others f.reference w)) t ∙ keep-all f.reference w (subst (λ n. AllByRecursion (λ (o : Interest). n < o.reference) w) (ap (λ (y : Interest). y.reference) e) r.0) in
    let left : x.left ≡ f.left = ap (λ (y : Interest). y.left) e in
    record {
      shares = omega (arith, ap (sum_by left-of) gone, left, sum_by-cons left-of x w);
      fewer = omega (arith, ap length gone);
    }
without f (x ∷ w) r (inr i) =
    let lower : x.reference < f.reference = all-in (λ (o : Interest). x.reference < o.reference) f w r.0 i in
    let t : eqb x.reference f.reference ≡ false = ne_eqb x.reference f.reference (λ e. omega (arith, e, lower)) in
    let stays : others f.reference (x ∷ w) ≡ x ∷ others f.reference w = ap (λ b. cond (not b) (x ∷ others f.reference w) (others f.reference w)) t in
    let rest = without f w r.1 i in
    record {
      shares = omega (arith, ap (sum_by left-of) stays, rest.shares, sum_by-cons left-of x w, sum_by-cons left-of x (others f.reference w));
      fewer = omega (arith, ap length stays, rest.fewer);
    }

pub all-filter : (P : Interest → Type 0) (test : Interest → Bool) (os : List Interest) → AllByRecursion P os → AllByRecursion P (filter test os)
all-filter P test [] a = tt
all-filter P test (o ∷ os) a = elim (test o) as (λ b. AllByRecursion P (cond b (o ∷ filter test os) (filter test os))) [ true ↦ (a.0, all-filter P test os a.1) | false ↦ all-filter P test os a.1 ]

pub rising-filter : (test : Interest → Bool) (os : List Interest) → IsRising os → IsRising (filter test os)
rising-filter test [] r = tt
rising-filter test (o ∷ os) r = elim (test o) as (λ b. IsRising (cond b (o ∷ filter test os) (filter test os))) [ true ↦ (all-filter (λ (x : Interest). o.reference < x.reference) test os r.0, rising-filter test os r.1) | false ↦ rising-filter test os r.1 ]

pub shorter-filter : (test : Interest → Bool) (os : List Interest) → length (filter test os) ≤ length os
shorter-filter test [] = omega arith
shorter-filter test (o ∷ os) = let rest = shorter-filter test os in elim (test o) as (λ b. length (cond b (o ∷ filter test os) (filter test os)) ≤ suc (length os)) [ true ↦ omega (arith, rest) | false ↦ omega (arith, rest) ]

-- a side that has as many shares trades as many as are wanted
pub total-filled : (n : ℕ) (side : Side) (wanted : ℕ) (os : List Interest) → length os ≤ n → IsRising os → wanted ≤ sum_by left-of os → sum_by shares-of (filled n side wanted os) ≡ wanted
total-filled zero side wanted [] l r w = omega (arith, w)
total-filled zero side wanted (o ∷ os) l r w = absurd (omega (arith, l))
total-filled (suc n) side wanted [] l r w = omega (arith, w)
total-filled (suc n) side wanted (o ∷ os) l r w =
    let f = best_of (is_ahead side) o os in
    let gone = without f (o ∷ os) r (best-in (is_ahead side) o os) in
    let tail = filled n side (wanted - min f.left wanted) (others f.reference (o ∷ os)) in
    let rest : sum_by shares-of tail ≡ wanted - min f.left wanted = total-filled n side (wanted - min f.left wanted) (others f.reference (o ∷ os)) (omega (arith, gone.fewer, l)) (rising-filter (λ (x : Interest). not (eqb x.reference f.reference)) (o ∷ os) r) (omega (arith, gone.shares, w)) in
    elim (cases_eq wanted 0) [
      | inl z ↦ (let t : eqb wanted 0 ≡ true = eq-eqb wanted 0 z in subst (λ b. sum_by shares-of (cond b [] (part_of wanted f ∷ tail)) ≡ wanted) (sym t) (omega (arith, z)))
      | inr z ↦ (let t : eqb wanted 0 ≡ false = ne_eqb wanted 0 z in subst (λ b. sum_by shares-of (cond b [] (part_of wanted f ∷ tail)) ≡ wanted) (sym t) (omega (arith, rest, sum_by-cons shares-of (part_of wanted f) tail)))
    ]
