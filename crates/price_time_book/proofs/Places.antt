-- Lemmas on an order that is found.
use Rattle.std.proofs.Common.{◌≡◌, ◌<◌, ◌≤◌, Bool, true, false, cond, eqb, List, [], ◌∷◌, Option, Some, None, sym, ap, ◌∙◌, arith, inl, inr, find, subst, option_map, IfSome}
use denote.Bor.{Bor}
use Rattle.std.specs.List.{AllByRecursion}
use Rattle.std.proofs.lemmas.Bool.{cases_Bool, eq-eqb}
use Rattle.std.proofs.lemmas.Bool.Decides.{nat_tests}
use Rattle.price_time_book.specs.declared.resting.Resting.{Resting}
use Rattle.price_time_book.specs.Orderly.{IsOrderly, IsRising}
use Rattle.price_time_book.specs.Orders.{order_with}

-- what holds of all orders holds of one that is found
pub each_found : (P : Resting → Type 0) (p : Resting → Bool) (w : List Resting) (o : Resting) → AllByRecursion P w → find p w ≡ Some o → P o
each_found P p [] o a e = absurd (cc e)
each_found P p (x ∷ w) o a e =
    elim (cases_Bool (p x)) [
      | inl h ↦ subst P (head h) a.0
      | inr h ↦ each_found P p w o a.1 (tail h)
    ]
  where
    head : p x ≡ true → x ≡ o
    head h = let k : cond (p x) (Some x) (find p w) ≡ Some o = e in (let m : cond true (Some x) (find p w) ≡ Some o = rw h at k in cc)

    tail : p x ≡ false → find p w ≡ Some o
    tail h = let k : cond (p x) (Some x) (find p w) ≡ Some o = e in (let m : cond false (Some x) (find p w) ≡ Some o = rw h at k in m)

-- where references rise, an order that is found is the one with its reference
pub found_by_reference : (p : Resting → Bool) (w : List Resting) (o : Resting) → IsRising w → find p w ≡ Some o → order_with o.reference w ≡ Some o
found_by_reference p [] o r e = absurd (cc e)
found_by_reference p (x ∷ w) o r e =
    elim (cases_Bool (p x)) [
      | inl h ↦ first (head h)
      | inr h ↦ later (found_by_reference p w o r.1 (tail h)) (each_found (λ (y : Resting). x.reference < y.reference) p w o r.0 (tail h))
    ]
  where
    head : p x ≡ true → x ≡ o
    head h = let k : cond (p x) (Some x) (find p w) ≡ Some o = e in (let m : cond true (Some x) (find p w) ≡ Some o = rw h at k in cc)

    tail : p x ≡ false → find p w ≡ Some o
    tail h = let k : cond (p x) (Some x) (find p w) ≡ Some o = e in (let m : cond false (Some x) (find p w) ≡ Some o = rw h at k in m)

    first : x ≡ o → order_with o.reference (x ∷ w) ≡ Some o
    first same = let b : eqb x.reference o.reference ≡ true = eq-eqb x.reference o.reference (ap (λ (y : Resting). y.reference) same) in rw b (ap (λ (y : Resting). Some y) same)

    later : order_with o.reference w ≡ Some o → x.reference < o.reference → order_with o.reference (x ∷ w) ≡ Some o
    later k less = let b : eqb x.reference o.reference ≡ false = grind (arith, nat_tests) in rw b k

-- what is known of an order that an orderly book w, which has a second name v, lends
pub lent_is_live : (p : Resting → Bool) (w v : List Resting) (lent : Option (Bor Resting)) → w ≡ v → IsOrderly w → option_map (λ o. o.now) lent ≡ find p v → IfSome lent (λ o. (0 < o.now.left) × (o.now.left ≤ o.now.intended))
lent_is_live p w v None same h e = tt
lent_is_live p w v (Some o) same h e =
    let found : find p w ≡ Some o.now = sym (e ∙ ap (find p) (sym same)) in
    (each_found (λ (y : Resting). 0 < y.left) p w o.now h.live found, each_found (λ (y : Resting). y.left ≤ y.intended) p w o.now h.within found)

pub lent_by_reference : (p : Resting → Bool) (w v : List Resting) (lent : Option (Bor Resting)) → w ≡ v → IsOrderly w → option_map (λ o. o.now) lent ≡ find p v → IfSome lent (λ o. order_with o.now.reference v ≡ Some o.now)
lent_by_reference p w v None same h e = tt
lent_by_reference p w v (Some o) same h e =
    let found : find p w ≡ Some o.now = sym (e ∙ ap (find p) (sym same)) in
    subst (λ (u : List Resting). order_with o.now.reference u ≡ Some o.now) same (found_by_reference p w o.now h.rising found)
