-- Lemmas on the best of some orders.
use Rattle.std.proofs.Common.{◌≡◌, ℕ, Bool, true, false, not, cond, ◌&&◌, eqb, List, [], ◌∷◌, Some, None, All, sym, ap, refl, ◌∙◌, inl, inr, filter, subst}
use Rattle.std.specs.List.{AllByRecursion, best_of}
use Rattle.std.proofs.lemmas.Bool.{cases_Bool, eq-eqb}
use Rattle.std.proofs.lemmas.List.Elements.{All-from_recursion}
use Rattle.market_types.specs.declared.order.Side.{Side}
use Rattle.price_time_book.specs.declared.resting.Resting.{Resting}
use Rattle.price_time_book.specs.Next.{beats, crosses, first_best, next_of}
use Rattle.price_time_book.specs.Sides.{is_better, opposite_of}
use Rattle.price_time_book.proofs.Ranks.{beats_rank, itself, no_better, one_way, or_first, or_last, rank}

abbrev best : Side → Resting → List Resting → Resting
best side b w = best_of (beats side) b w

-- an order does not come before r
abbrev NoBetter : Side → Resting → Resting → Type 0
NoBetter side r x = beats side x r ≡ false

none_before : (side : Side) (a b c : Resting) → beats side a b ≡ false → beats side b c ≡ false → beats side a c ≡ false
none_before side a b c h k = beats_rank side a c ∙ no_better side (rank side a) (rank side b) (rank side c) (sym (beats_rank side a b) ∙ h) (sym (beats_rank side b c) ∙ k)

not_back : (side : Side) (a b : Resting) → beats side a b ≡ true → beats side b a ≡ false
not_back side a b h = beats_rank side b a ∙ one_way side (rank side a) (rank side b) (sym (beats_rank side a b) ∙ h)

not_itself : (side : Side) (a : Resting) → beats side a a ≡ false
not_itself side a = beats_rank side a a ∙ itself side (rank side a)

-- none is better than the best
pub none_better : (side : Side) (b : Resting) (w : List Resting) → NoBetter side (best side b w) b × AllByRecursion (NoBetter side (best side b w)) w
none_better side b [] = (not_itself side b, tt)
none_better side b (x ∷ w) =
    elim (cases_Bool (beats side x b)) [
      | inl h ↦ (let r = none_better side x w in subst Claim (sym (ap (λ c. cond c x b) h)) (none_before side b x (best side x w) (not_back side x b h) r.0, (r.0, r.1)))
      | inr h ↦ (let r = none_better side b w in subst Claim (sym (ap (λ c. cond c x b) h)) (r.0, (none_before side x b (best side b w) h r.0, r.1)))
    ]
  where
    Claim : Resting → Type 0
    Claim y = NoBetter side (best side y w) b × (NoBetter side (best side y w) x × AllByRecursion (NoBetter side (best side y w)) w)

-- what holds of all that pass a test
pub each_passing : (P : Resting → Type 0) (p : Resting → Bool) (w : List Resting) → AllByRecursion P (filter p w) → AllByRecursion (λ (x : Resting). p x ≡ true → P x) w
each_passing P p [] a = tt
each_passing P p (x ∷ w) a =
    elim (cases_Bool (p x)) [
      | inl h ↦ (let both = subst (λ c. AllByRecursion P (cond c (x ∷ filter p w) (filter p w))) h a in ((λ _. both.0), each_passing P p w both.1))
      | inr h ↦ ((λ k. absurd (apart h k)), each_passing P p w (subst (λ c. AllByRecursion P (cond c (x ∷ filter p w) (filter p w))) h a))
    ]
  where
    apart : p x ≡ false → p x ≡ true → ⊥
    apart h k = cc

pub first_is_best : (side : Side) (o : Resting) (w : List Resting) → first_best side w ≡ Some o → AllByRecursion (NoBetter side o) w
first_is_best side o [] e = tt
first_is_best side o (x ∷ w) e =
    let same : best side x w ≡ o = cc e in
    let r = none_better side x w in
    subst (λ (y : Resting). AllByRecursion (NoBetter side y) (x ∷ w)) same (r.0, r.1)

pub each_map : (P Q : Resting → Type 0) → ((x : Resting) → P x → Q x) → (w : List Resting) → AllByRecursion P w → AllByRecursion Q w
each_map P Q f [] a = tt
each_map P Q f (x ∷ w) a = (f x a.0, each_map P Q f w a.1)

-- what no order that comes first leaves open, all that cross have
next_each : (P : Resting → Type 0) (book : List Resting) (side : Side) (limit : ℕ) (o : Resting) → ((x : Resting) → beats (opposite_of side) x o ≡ false → P x) → next_of book side limit ≡ Some o → All (λ x. crosses side limit x ≡ true → P x) book
next_each P book side limit o f e =
    All-from_recursion (λ x. crosses side limit x ≡ true → P x) book (each_passing P (crosses side limit) book (each_map (NoBetter (opposite_of side) o) P f (filter (crosses side limit) book) (first_is_best (opposite_of side) o (filter (crosses side limit) book) e)))

-- no order that crosses has a better price than the next
pub next_is_best : (book : List Resting) (side : Side) (limit : ℕ) (o : Resting) → next_of book side limit ≡ Some o → All (λ x. crosses side limit x ≡ true → is_better (opposite_of side) x.price o.price ≡ false) book
next_is_best book side limit o e = next_each (λ x. is_better (opposite_of side) x.price o.price ≡ false) book side limit o (λ x h. or_first (is_better (opposite_of side) x.price o.price) (eqb x.price o.price && (x.shown && not o.shown)) h) e

-- at its price none that crosses is shown unless the next is
pub next_shown_first : (book : List Resting) (side : Side) (limit : ℕ) (o : Resting) → next_of book side limit ≡ Some o → All (λ x. crosses side limit x ≡ true → x.price ≡ o.price → x.shown ≡ true → o.shown ≡ true) book
next_shown_first book side limit o e =
    next_each (λ x. x.price ≡ o.price → x.shown ≡ true → o.shown ≡ true) book side limit o (λ x h p v. or_last (is_better (opposite_of side) x.price o.price) (eqb x.price o.price) x.shown o.shown h (eq-eqb x.price o.price p) v) e

-- where there is no next order none crosses
pub none_crosses : (book : List Resting) (side : Side) (limit : ℕ) → next_of book side limit ≡ None → All (λ x. crosses side limit x ≡ false) book
none_crosses book side limit e = All-from_recursion (λ x. crosses side limit x ≡ false) book (fails book (empty (filter (crosses side limit) book) e))
  where
    empty : (w : List Resting) → first_best (opposite_of side) w ≡ None → w ≡ []
    empty [] e = refl
    empty (x ∷ w) e = absurd (cc e)

    fails : (w : List Resting) → filter (crosses side limit) w ≡ [] → AllByRecursion (λ x. crosses side limit x ≡ false) w
    fails [] e = tt
    fails (x ∷ w) e =
        elim (cases_Bool (crosses side limit x)) [
          | inl h ↦ absurd (some (subst (λ c. cond c (x ∷ filter (crosses side limit) w) (filter (crosses side limit) w) ≡ []) h e))
          | inr h ↦ (h, fails w (subst (λ c. cond c (x ∷ filter (crosses side limit) w) (filter (crosses side limit) w) ≡ []) h e))
        ]
      where
        some : x ∷ filter (crosses side limit) w ≡ [] → ⊥
        some k = cc k
