-- The best price of a side is that of its shown orders.
use Rattle.std.proofs.Common.{◌≡◌, Bool, true, false, not, cond, ◌&&◌, eqb, List, [], ◌∷◌, Option, Some, None, All, ap, refl, ◌∙◌, inl, inr, filter, subst, option_map}
use Rattle.std.specs.List.{AllByRecursion}
use Rattle.std.proofs.lemmas.Bool.{cases_Bool}
use Rattle.std.proofs.lemmas.List.Elements.{All-from_recursion, recursion_from_All}
use Rattle.market_types.specs.declared.order.Side.{Side}
use Rattle.price_time_book.specs.declared.resting.Best.{Best}
use Rattle.price_time_book.specs.declared.resting.Resting.{Resting}
use Rattle.price_time_book.specs.Next.{beats, best_at, first_best, is_shown_on, shares_at, top_of}
use Rattle.price_time_book.specs.Sides.{is_better}
use Rattle.price_time_book.proofs.Bests.{each_map, each_passing, first_is_best}
use Rattle.price_time_book.proofs.Ranks.{or_first}

none_first : (s : Side) (w : List Resting) → first_best s w ≡ None → w ≡ []
none_first s [] e = refl
none_first s (x ∷ w) e = absurd (cc e)

fails : (p : Resting → Bool) (w : List Resting) → filter p w ≡ [] → AllByRecursion (λ x. p x ≡ false) w
fails p [] e = tt
fails p (x ∷ w) e =
    elim (cases_Bool (p x)) [
      | inl h ↦ absurd (some (subst (λ c. cond c (x ∷ filter p w) (filter p w) ≡ []) h e))
      | inr h ↦ (h, fails p w (subst (λ c. cond c (x ∷ filter p w) (filter p w) ≡ []) h e))
    ]
  where
    some : x ∷ filter p w ≡ [] → ⊥
    some k = cc k

empty : (p : Resting → Bool) (w : List Resting) → AllByRecursion (λ x. p x ≡ false) w → filter p w ≡ []
empty p [] a = refl
empty p (x ∷ w) a = ap (λ c. cond c (x ∷ filter p w) (filter p w)) a.0 ∙ empty p w a.1

abbrev told : Side → List Resting → Resting → Best
told s w o = record { price = o.price; shares = shares_at s o.price w }

none_told : (s : Side) (w : List Resting) (top : Option Resting) → option_map (told s w) top ≡ None → top ≡ None
none_told s w None e = refl
none_told s w (Some o) e = absurd (cc e)

pub best_none : (s : Side) (w : List Resting) → best_at s w ≡ None → All (λ o. is_shown_on s o ≡ false) w
best_none s w e = All-from_recursion (λ o. is_shown_on s o ≡ false) w (fails (is_shown_on s) w (none_first s (filter (is_shown_on s) w) (none_told s w (top_of s w) e)))

pub none_best : (s : Side) (w : List Resting) → All (λ o. is_shown_on s o ≡ false) w → best_at s w ≡ None
none_best s w a = ap (λ (v : List Resting). option_map (told s w) (first_best s v)) (empty (is_shown_on s) w (recursion_from_All (λ (o : Resting). is_shown_on s o ≡ false) w a))

-- what is known of all shown orders from the first of them
by_top : (s : Side) (w : List Resting) (b : Best) (top : Option Resting) → top_of s w ≡ top → option_map (told s w) top ≡ Some b → All (λ o. is_shown_on s o ≡ true → is_better s o.price b.price ≡ false) w
by_top s w b None e f = absurd (cc f)
by_top s w b (Some t) e f =
    let same : told s w t ≡ b = cc f in
    let price : t.price ≡ b.price = ap (λ (c : Best). c.price) same in
    let P : Resting → Type 0 = λ o. is_better s o.price b.price ≡ false in
    All-from_recursion (λ o. is_shown_on s o ≡ true → P o) w (each_passing P (is_shown_on s) w (each_map (λ o. beats s o t ≡ false) P (λ o h. subst (λ n. is_better s o.price n ≡ false) price (or_first (is_better s o.price t.price) (eqb o.price t.price && (o.shown && not t.shown)) h)) (filter (is_shown_on s) w) (first_is_best s t (filter (is_shown_on s) w) e)))

pub best_is_best : (s : Side) (w : List Resting) (b : Best) → best_at s w ≡ Some b → All (λ o. is_shown_on s o ≡ true → is_better s o.price b.price ≡ false) w
best_is_best s w b e = by_top s w b (top_of s w) refl e
