-- In a book of which each order is shown price and time alone decide.
use Rattle.std.proofs.Common.{◌≡◌, ℕ, Bool, true, false, cond, ◌&&◌, eqb, List, [], ◌∷◌, Option, Some, None, sym, ap, refl, ◌∙◌, filter, sum_by, option_map}
use Rattle.std.specs.List.{AllByRecursion, AllPass, best_of}
use Rattle.std.proofs.lemmas.List.Elements.{recursion_from_All}
use Rattle.market_types.specs.declared.order.Side.{Side}
use Rattle.price_time_book.specs.declared.resting.Best.{Best}
use Rattle.price_time_book.specs.declared.resting.Resting.{Resting}
use Rattle.price_time_book.specs.Next.{beats, best_at, crosses, first_best, is_shown_on, next_of, shares_at}
use Rattle.price_time_book.specs.Priced.{best_priced, first_priced, shares_priced}
use Rattle.price_time_book.specs.Sides.{is_better, is_on, opposite_of}
use Rattle.price_time_book.proofs.Changes.{each-filter}
use Rattle.price_time_book.proofs.Ranks.{beats_same}

abbrev IsShown : Resting → Type 0
IsShown o = o.shown ≡ true

abbrev by_price : Side → Resting → Resting → Bool
by_price s a b = is_better s a.price b.price

best_same : (s : Side) (a : Resting) (w : List Resting) → IsShown a → AllByRecursion IsShown w → best_of (beats s) a w ≡ best_of (by_price s) a w
best_same s a [] h k = refl
best_same s a (x ∷ w) h k =
    let one : beats s x a ≡ by_price s x a = beats_same s x a (k.0 ∙ sym h) in
    let shown : IsShown (cond (by_price s x a) x a) = elim (by_price s x a) as (λ c. IsShown (cond c x a)) [ true ↦ k.0 | false ↦ h ] in
    ap (λ c. best_of (beats s) (cond c x a) w) one ∙ best_same s (cond (by_price s x a) x a) w shown k.1

first_same : (s : Side) (w : List Resting) → AllByRecursion IsShown w → first_best s w ≡ first_priced s w
first_same s [] k = refl
first_same s (x ∷ w) k = ap (λ (o : Resting). Some o) (best_same s x w k.0 k.1)

pub next_priced : (side : Side) (limit : ℕ) (w : List Resting) → AllByRecursion IsShown w → next_of w side limit ≡ first_priced (opposite_of side) (filter (crosses side limit) w)
next_priced side limit w k = first_same (opposite_of side) (filter (crosses side limit) w) (each-filter IsShown (crosses side limit) w k)

and_shown : (a b : Bool) → b ≡ true → (a && b) ≡ a
and_shown true b h = h
and_shown false b h = refl

-- two tests that agree on shown orders choose the same of them
filter_same : (p q : Resting → Bool) → ((o : Resting) → IsShown o → p o ≡ q o) → (w : List Resting) → AllByRecursion IsShown w → filter p w ≡ filter q w
filter_same p q f [] k = refl
filter_same p q f (x ∷ w) k = ap (λ c. cond c (x ∷ filter p w) (filter p w)) (f x k.0) ∙ ap (λ (v : List Resting). cond (q x) (x ∷ v) v) (filter_same p q f w k.1)

shares_same : (s : Side) (price : ℕ) (w : List Resting) → AllByRecursion IsShown w → shares_at s price w ≡ shares_priced s price w
shares_same s price w k = ap (λ (v : List Resting). sum_by (λ (o : Resting). o.left) v) (filter_same (λ o. is_shown_on s o && eqb o.price price) (λ o. is_on s o && eqb o.price price) (λ o h. ap (λ c. c && eqb o.price price) (and_shown (is_on s o) o.shown h)) w k)

told_same : (s : Side) (w : List Resting) (t : Option Resting) → AllByRecursion IsShown w → option_map (λ (o : Resting). let b : Best = record { price = o.price; shares = shares_at s o.price w } in b) t ≡ option_map (λ (o : Resting). let b : Best = record { price = o.price; shares = shares_priced s o.price w } in b) t
told_same s w None k = refl
told_same s w (Some o) k = ap (λ (n : ℕ). let b : Best = record { price = o.price; shares = n } in Some b) (shares_same s o.price w k)

pub best_is_priced : (s : Side) (w : List Resting) → AllByRecursion IsShown w → best_at s w ≡ best_priced s w
best_is_priced s w k =
    let top : first_best s (filter (is_shown_on s) w) ≡ first_priced s (filter (is_on s) w) = ap (first_best s) (filter_same (is_shown_on s) (is_on s) (λ o h. and_shown (is_on s o) o.shown h) w k) ∙ first_same s (filter (is_on s) w) (each-filter IsShown (is_on s) w k) in
    ap (option_map (λ (o : Resting). let b : Best = record { price = o.price; shares = shares_at s o.price w } in b)) top ∙ told_same s w (first_priced s (filter (is_on s) w)) k

pub all_shown : (w : List Resting) → AllPass (λ o. o.shown) w → AllByRecursion IsShown w
all_shown w a = recursion_from_All IsShown w a
