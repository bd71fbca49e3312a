-- Lemmas on an order that changes, leaves or comes to rest.
use Rattle.std.proofs.Common.{◌≡◌, ◌≢◌, ℕ, ◌<◌, ◌≤◌, Bool, true, false, not, cond, eqb, List, [], ◌∷◌, ◌++◌, Option, Some, None, All, IfSome, IfNone, length, refl, sym, ap, arith, inl, inr, subst, filter, length-append}
use Rattle.std.specs.List.{AllByRecursion}
use Rattle.std.proofs.lemmas.Bool.{cases_eq, eq-eqb, ne_eqb}
use Rattle.std.proofs.lemmas.Bool.Decides.{nat_tests}
use Rattle.std.proofs.lemmas.List.Elements.{All-from_recursion, recursion_from_All}
use Rattle.price_time_book.specs.declared.resting.Resting.{Resting}
use Rattle.price_time_book.specs.Orders.{changed, without, with_order}
use Rattle.price_time_book.specs.Orderly.{IsOrderly, IsRising}

-- ---- an order leaves
pub each-filter : (P : Resting → Type 0) (p : Resting → Bool) (w : List Resting) → AllByRecursion P w → AllByRecursion P (filter p w)
each-filter P p [] a = tt
each-filter P p (x ∷ w) a = elim (p x) as (λ b. AllByRecursion P (cond b (x ∷ filter p w) (filter p w))) [ true ↦ (a.0, each-filter P p w a.1) | false ↦ each-filter P p w a.1 ]

pub rising-filter : (p : Resting → Bool) (w : List Resting) → IsRising w → IsRising (filter p w)
rising-filter p [] r = tt
rising-filter p (x ∷ w) r = elim (p x) as (λ b. IsRising (cond b (x ∷ filter p w) (filter p w))) [ true ↦ (each-filter (λ (y : Resting). x.reference < y.reference) p w r.0, rising-filter p w r.1) | false ↦ rising-filter p w r.1 ]

filter_le : (p : Resting → Bool) (w : List Resting) → length (filter p w) ≤ length w
filter_le p [] = omega arith
filter_le p (x ∷ w) = elim (p x) as (λ b. length (cond b (x ∷ filter p w) (filter p w)) ≤ length (x ∷ w)) [ true ↦ omega (arith, filter_le p w) | false ↦ omega (arith, filter_le p w) ]

orderly-without : (n : ℕ) (w : List Resting) → IsOrderly w → IsOrderly (without n w)
orderly-without n w h = record {
  rising = rising-filter (λ (o : Resting). not (eqb o.reference n)) w h.rising;
  live = each-filter (λ (o : Resting). 0 < o.left) (λ (o : Resting). not (eqb o.reference n)) w h.live;
  within = each-filter (λ (o : Resting). o.left ≤ o.intended) (λ (o : Resting). not (eqb o.reference n)) w h.within;
  few = omega (arith, filter_le (λ (o : Resting). not (eqb o.reference n)) w, h.few);
}

-- ---- an order stands in another's place
pub each-with : (P : Resting → Type 0) (o : Resting) (w : List Resting) → P o → AllByRecursion P w → AllByRecursion P (with_order o w)
each-with P o [] p a = tt
each-with P o (x ∷ w) p a = (elim (eqb x.reference o.reference) as (λ b. P (cond b o x)) [ true ↦ p | false ↦ a.0 ], each-with P o w p a.1)

pub same_reference : (o x : Resting) → (cond (eqb x.reference o.reference) o x).reference ≡ x.reference
same_reference o x =
    elim (cases_eq x.reference o.reference) [
      | inl e ↦ rw (eq-eqb x.reference o.reference e) (sym e)
      | inr n ↦ rw (ne_eqb x.reference o.reference n) refl
    ]

above-with : (n : ℕ) (o : Resting) (w : List Resting) → AllByRecursion (λ (y : Resting). n < y.reference) w → AllByRecursion (λ (y : Resting). n < y.reference) (with_order o w)
above-with n o [] a = tt
above-with n o (x ∷ w) a = (omega (arith, same_reference o x, a.0), above-with n o w a.1)

rising-with : (o : Resting) (w : List Resting) → IsRising w → IsRising (with_order o w)
rising-with o [] r = tt
rising-with o (x ∷ w) r = (subst (λ (n : ℕ). AllByRecursion (λ (y : Resting). n < y.reference) (with_order o w)) (sym (same_reference o x)) (above-with x.reference o w r.0), rising-with o w r.1)

length-with : (o : Resting) (w : List Resting) → length (with_order o w) ≡ length w
length-with o [] = refl
length-with o (x ∷ w) = omega (arith, length-with o w)

orderly-with : (o : Resting) (w : List Resting) → o.left ≢ 0 → o.left ≤ o.intended → IsOrderly w → IsOrderly (with_order o w)
orderly-with o w some le h = record {
  rising = rising-with o w h.rising;
  live = each-with (λ (x : Resting). 0 < x.left) o w (omega arith) h.live;
  within = each-with (λ (x : Resting). x.left ≤ x.intended) o w le h.within;
  few = omega (arith, length-with o w, h.few);
}

pub orderly-changed : (o : Resting) (w : List Resting) → o.left ≤ o.intended → IsOrderly w → IsOrderly (changed o w)
orderly-changed o w le h =
    elim (cases_eq o.left 0) [
      | inl none ↦ (let b : eqb o.left 0 ≡ true = eq-eqb o.left 0 none in subst (λ c. IsOrderly (cond c (without o.reference w) (with_order o w))) (sym b) (orderly-without o.reference w h))
      | inr some ↦ (let b : eqb o.left 0 ≡ false = ne_eqb o.left 0 some in subst (λ c. IsOrderly (cond c (without o.reference w) (with_order o w))) (sym b) (orderly-with o w some le h))
    ]

-- ---- what a change leaves
-- all references stay below a number
pub below-changed : (n : ℕ) (o : Resting) (w : List Resting) → All (λ (x : Resting). x.reference < n) w → All (λ (x : Resting). x.reference < n) (changed o w)
below-changed n o w a = All-from_recursion (λ (x : Resting). x.reference < n) (changed o w) (elim (eqb o.left 0) as (λ b. AllByRecursion (λ (x : Resting). x.reference < n) (cond b (without o.reference w) (with_order o w))) [
  | true ↦ each-filter (λ (x : Resting). x.reference < n) (λ (x : Resting). not (eqb x.reference o.reference)) w (recursion_from_All (λ (x : Resting). x.reference < n) w a)
  | false ↦ with w (recursion_from_All (λ (x : Resting). x.reference < n) w a)
])
  where
    with : (w : List Resting) → AllByRecursion (λ (x : Resting). x.reference < n) w → AllByRecursion (λ (x : Resting). x.reference < n) (with_order o w)
    with [] a = tt
    with (x ∷ w) a = (omega (arith, same_reference o x, a.0), with w a.1)

pub length-changed : (o : Resting) (w : List Resting) → length (changed o w) ≤ length w
length-changed o w = elim (eqb o.left 0) as (λ b. length (cond b (without o.reference w) (with_order o w)) ≤ length w) [ true ↦ filter_le (λ (x : Resting). not (eqb x.reference o.reference)) w | false ↦ omega (arith, length-with o w) ]

-- ---- the same at a place
pub keep_all : (n : ℕ) (w : List Resting) → AllByRecursion (λ (y : Resting). n < y.reference) w → without n w ≡ w
keep_all n [] a = refl
keep_all n (x ∷ w) a = let e : eqb x.reference n ≡ false = grind (arith, nat_tests, a.0) in rw e (ap (λ r. x ∷ r) (keep_all n w a.1))

pub leave_all : (o : Resting) (w : List Resting) → AllByRecursion (λ (y : Resting). o.reference < y.reference) w → with_order o w ≡ w
leave_all o [] a = refl
leave_all o (x ∷ w) a = let e : eqb x.reference o.reference ≡ false = grind (arith, nat_tests, a.0) in rw e (ap (λ r. x ∷ r) (leave_all o w a.1))

-- ---- an order comes to rest
pub each-push : (P : Resting → Type 0) (w : List Resting) (o : Resting) → AllByRecursion P w → P o → AllByRecursion P (w ++ o ∷ [])
each-push P [] o a p = (p, tt)
each-push P (x ∷ w) o a p = (a.0, each-push P w o a.1 p)

rising-push : (w : List Resting) (o : Resting) → IsRising w → AllByRecursion (λ (x : Resting). x.reference < o.reference) w → IsRising (w ++ o ∷ [])
rising-push [] o r a = (tt, tt)
rising-push (x ∷ w) o r a = (each-push (λ (y : Resting). x.reference < y.reference) w o r.0 a.0, rising-push w o r.1 a.1)

pub orderly-push : (w : List Resting) (o : Resting) → IsOrderly w → 0 < o.left → o.left ≤ o.intended → length w < 4294967296 → All (λ (x : Resting). x.reference < o.reference) w → IsOrderly (w ++ o ∷ [])
orderly-push w o h some le few later = record {
  rising = rising-push w o h.rising (recursion_from_All (λ (x : Resting). x.reference < o.reference) w later);
  live = each-push (λ (x : Resting). 0 < x.left) w o h.live some;
  within = each-push (λ (x : Resting). x.left ≤ x.intended) w o h.within le;
  few = omega (arith, length-append w (o ∷ []), few);
}

-- ---- a call that may change an order
-- what holds of the book, however an order of it changes, holds after the call
pub kept : {X : Type 0} (P : List Resting → Type 0) (g : X → Resting) (r : Option X) (old new : List Resting) → IfSome r (λ x. new ≡ changed (g x) old) → IfNone r (new ≡ old) → ((o : Resting) → P (changed o old)) → P old → P new
kept P g None old new some none f a = subst P (sym none) a
kept P g (Some x) old new some none f a = subst P (sym some) (f (g x))
