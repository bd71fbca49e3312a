-- Of orders none of which comes before another the next is the earliest.
use Rattle.std.proofs.Common.{◌≡◌, ℕ, ◌≤◌, Bool, true, false, cond, List, [], ◌∷◌, Some, All, sym, ap, ◌∙◌, arith, inl, inr, filter, subst}
use Rattle.std.specs.List.{AllByRecursion, best_of}
use Rattle.std.proofs.lemmas.Bool.{cases_Bool}
use Rattle.std.proofs.lemmas.List.Elements.{All-from_recursion}
use Rattle.market_types.specs.declared.order.Side.{Side}
use Rattle.price_time_book.specs.declared.resting.Resting.{Resting}
use Rattle.price_time_book.specs.Next.{beats, crosses, first_best, next_of}
use Rattle.price_time_book.specs.Orderly.{IsRising}
use Rattle.price_time_book.specs.Sides.{is_better, opposite_of}
use Rattle.price_time_book.proofs.Bests.{each_map, each_passing, none_better}
use Rattle.price_time_book.proofs.Changes.{rising-filter}
use Rattle.price_time_book.proofs.Ranks.{beats_rank, beats_same, itself, no_worse_through, rank, through_no_worse}

clash : (b : Bool) → b ≡ true → b ≡ false → ⊥
clash true h k = absurd (cc k)
clash false h k = absurd (cc h)

-- where r comes before b and x does not, r comes before x
before_through : (s : Side) (r b x : Resting) → beats s r b ≡ true → beats s x b ≡ false → beats s r x ≡ true
before_through s r b x h k = beats_rank s r x ∙ through_no_worse s (rank s r) (rank s b) (rank s x) (sym (beats_rank s r b) ∙ h) (sym (beats_rank s x b) ∙ k)

-- where x comes before b but not before r, r comes before b
through_before : (s : Side) (x b r : Resting) → beats s x b ≡ true → beats s x r ≡ false → beats s r b ≡ true
through_before s x b r h k = beats_rank s r b ∙ no_worse_through s (rank s x) (rank s b) (rank s r) (sym (beats_rank s x b) ∙ h) (sym (beats_rank s x r) ∙ k)

-- r arrived no later than x, unless it comes before x anyway
abbrev IsEarly : Side → Resting → Resting → Type 0
IsEarly s r x = beats s r x ≡ false → r.reference ≤ x.reference

abbrev best : Side → Resting → List Resting → Resting
best s b w = best_of (beats s) b w

early : (s : Side) (b : Resting) (w : List Resting) → IsRising (b ∷ w) → IsEarly s (best s b w) b × AllByRecursion (IsEarly s (best s b w)) w
early s b [] h = ((λ _. omega arith), tt)
early s b (x ∷ w) h =
    elim (cases_Bool (beats s x b)) [
      | inl t ↦
          let r = early s x w h.1 in
          let first : IsEarly s (best s x w) b = λ k. absurd (clash (beats s (best s x w) b) (through_before s x b (best s x w) t (none_better s x w).0) k) in
          subst Claim (sym (ap (λ c. cond c x b) t)) (first, (r.0, r.1))
      | inr t ↦
          let r = early s b w (h.0.1, h.1.1) in
          let later : IsEarly s (best s b w) x = λ k. elim (cases_Bool (beats s (best s b w) b)) [
            | inl p ↦ absurd (clash (beats s (best s b w) x) (before_through s (best s b w) b x p t) k)
            | inr p ↦ omega (arith, r.0 p, h.0.0)
          ] in
          subst Claim (sym (ap (λ c. cond c x b) t)) (r.0, (later, r.1))
    ]
  where
    Claim : Resting → Type 0
    Claim y = IsEarly s (best s y w) b × (IsEarly s (best s y w) x × AllByRecursion (IsEarly s (best s y w)) w)

first_early : (s : Side) (o : Resting) (w : List Resting) → IsRising w → first_best s w ≡ Some o → AllByRecursion (IsEarly s o) w
first_early s o [] h e = tt
first_early s o (x ∷ w) h e =
    let same : best s x w ≡ o = cc e in
    let r = early s x w h in
    subst (λ (y : Resting). AllByRecursion (IsEarly s y) (x ∷ w)) same (r.0, r.1)

-- both at once
both : (P Q : Resting → Type 0) (w : List Resting) → AllByRecursion P w → AllByRecursion Q w → AllByRecursion (λ (x : Resting). P x × Q x) w
both P Q [] a b = tt
both P Q (x ∷ w) a b = ((a.0, b.0), both P Q w a.1 b.1)

-- of orders that cross at the price of the next, shown as it is or hidden as it is, none arrived earlier
pub next_is_earliest : (book : List Resting) (side : Side) (limit : ℕ) (o : Resting) → IsRising book → next_of book side limit ≡ Some o → All (λ x. crosses side limit x ≡ true → x.price ≡ o.price → x.shown ≡ o.shown → o.reference ≤ x.reference) book
next_is_earliest book side limit o h e =
    let s = opposite_of side in
    let p = crosses side limit in
    let P : Resting → Type 0 = λ x. x.price ≡ o.price → x.shown ≡ o.shown → o.reference ≤ x.reference in
    let each = first_early s o (filter p book) (rising-filter p book h) e in
    All-from_recursion (λ x. crosses side limit x ≡ true → P x) book (each_passing P p book (each_map (IsEarly s o) P (λ x f q v. f (beats_same s o x (sym v) ∙ ap (λ n. is_better s o.price n) q ∙ itself s o.price)) (filter p book) each))
