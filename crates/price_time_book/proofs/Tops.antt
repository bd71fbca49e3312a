-- Lemmas on the first order of a side, and on the next order for an incoming one.
use Rattle.std.proofs.Common.{◌≡◌, ◌⊎◌, ℕ, Bool, true, false, not, cond, ◌&&◌, ◌||◌, ltb, leb, eqb, IfSome, List, [], ◌∷◌, Option, Some, None, refl, sym, ap, ◌∙◌, arith, inl, inr, filter, fold, option_map}
use Rattle.std.specs.List.{best_of}
use Rattle.std.proofs.lemmas.Bool.{cases_Bool}
use Rattle.std.proofs.lemmas.Bool.Decides.{nat_tests}
use Rattle.market_types.specs.declared.order.Side.{Side}
use Rattle.market_types.specs.declared.order.Side.TheVariants.{Buy, Sell}
use Rattle.price_time_book.specs.declared.resting.Resting.{Resting}
use Rattle.price_time_book.specs.Next.{beats, crosses, first_best, next_of}
use Rattle.price_time_book.specs.Queues.{better_of, first_on, hidden_of, is_in, shown_of, top_in}
use Rattle.price_time_book.proofs.Ranks.{beats_hidden, beats_rank, behind, better_through, either, no_better, one_way, or_first, rank, ranks_apart}
use Rattle.price_time_book.specs.Sides.{is_on, is_better, is_within, opposite_of}

-- the better of the first order so far and another
abbrev better : Side → Option Resting → Resting → Resting
better side None x = x
better side (Some b) x = cond (beats side x b) x b

-- the first order so far, once another that passes has been looked at
abbrev step : Side → (Resting → Bool) → Option Resting → Resting → Option Resting
step side p first x = cond (p x) (Some (better side first x)) first

fold_from : (side : Side) (p : Resting → Bool) (a : Resting) (w : List Resting) → Some (best_of (beats side) a (filter p w)) ≡ fold (step side p) (Some a) w
fold_from side p a [] = refl
fold_from side p a (x ∷ w) =
    elim (cases_Bool (p x)) [
      | inl passes ↦ rw passes (fold_from side p (cond (beats side x a) x a) w)
      | inr fails ↦ rw fails (fold_from side p a w)
    ]

-- the first best of those that pass, found from the front
folded : (side : Side) (p : Resting → Bool) (w : List Resting) → first_best side (filter p w) ≡ fold (step side p) None w
folded side p [] = refl
folded side p (x ∷ w) =
    elim (cases_Bool (p x)) [
      | inl passes ↦ rw passes (fold_from side p x w)
      | inr fails ↦ rw fails (folded side p w)
    ]

-- an order if an incoming one of this side meets its price
abbrev gate : Side → ℕ → Option Resting → Option Resting
gate side limit None = None
gate side limit (Some o) = cond (is_within side limit o.price) (Some o) None

no_worse : (c e s : Bool) → (c || (e && s)) ≡ true → (c ≡ true) ⊎ (e ≡ true)
no_worse true e s h = inl refl
no_worse false true s h = inr refl
no_worse false false s h = absurd (cc h)

-- an order that comes before one within the limit is within it
better_within : (side : Side) (limit : ℕ) (a b : Resting) → beats (opposite_of side) a b ≡ true → is_within side limit b.price ≡ true → is_within side limit a.price ≡ true
better_within Buy limit a b h k = buys a.price b.price limit (a.shown && not b.shown) h k
  where
    buys : (a b limit : ℕ) (s : Bool) → (ltb a b || (eqb a b && s)) ≡ true → leb b limit ≡ true → leb a limit ≡ true
    buys a b limit s h k = grind (arith, nat_tests, no_worse (ltb a b) (eqb a b) s h)
better_within Sell limit a b h k = sells a.price b.price limit (a.shown && not b.shown) h k
  where
    sells : (a b limit : ℕ) (s : Bool) → (ltb b a || (eqb a b && s)) ≡ true → leb limit b ≡ true → leb limit a ≡ true
    sells a b limit s h k = grind (arith, nat_tests, no_worse (ltb b a) (eqb a b) s h)

-- an order that doesn't come before another is within the limit only where the other is
worse_within : (side : Side) (limit : ℕ) (a b : Resting) → beats (opposite_of side) a b ≡ false → is_within side limit a.price ≡ true → is_within side limit b.price ≡ true
worse_within Buy limit a b h k = buys a.price b.price limit (or_first (ltb a.price b.price) (eqb a.price b.price && (a.shown && not b.shown)) h) k
  where
    buys : (a b limit : ℕ) → ltb a b ≡ false → leb a limit ≡ true → leb b limit ≡ true
    buys a b limit h k = grind (arith, nat_tests)
worse_within Sell limit a b h k = sells a.price b.price limit (or_first (ltb b.price a.price) (eqb a.price b.price && (a.shown && not b.shown)) h) k
  where
    sells : (a b limit : ℕ) → ltb b a ≡ false → leb limit a ≡ true → leb limit b ≡ true
    sells a b limit h k = grind (arith, nat_tests)

-- the step of both searches, said of the three tests
gated : (on better within_x within_b : Bool) (x b : Resting) → (better ≡ true → within_b ≡ true → within_x ≡ true) → (better ≡ false → within_x ≡ true → within_b ≡ true)
    → cond (on && within_x) (Some (cond within_b (cond better x b) x)) (cond within_b (Some b) None) ≡ cond on (cond better (cond within_x (Some x) None) (cond within_b (Some b) None)) (cond within_b (Some b) None)
gated false better wx wb x b f g = refl
gated true true true true x b f g = refl
gated true true true false x b f g = refl
gated true true false true x b f g = absurd (cc (f refl refl))
gated true true false false x b f g = refl
gated true false true true x b f g = refl
gated true false true false x b f g = absurd (cc (g refl refl))
gated true false false true x b f g = refl
gated true false false false x b f g = refl

gate_step : (side : Side) (limit : ℕ) (first : Option Resting) (x : Resting) → step (opposite_of side) (crosses side limit) (gate side limit first) x ≡ gate side limit (step (opposite_of side) (is_on (opposite_of side)) first x)
gate_step side limit None x =
    elim (is_on (opposite_of side) x) as (λ c. cond (c && is_within side limit x.price) (Some x) None ≡ gate side limit (cond c (Some x) None)) [ true ↦ refl | false ↦ refl ]
gate_step side limit (Some b) x =
    left_side ∙ gated (is_on (opposite_of side) x) (beats (opposite_of side) x b) (is_within side limit x.price) (is_within side limit b.price) x b (better_within side limit x b) (worse_within side limit x b) ∙ right_side
  where
    left_side : step (opposite_of side) (crosses side limit) (gate side limit (Some b)) x ≡ cond (is_on (opposite_of side) x && is_within side limit x.price) (Some (cond (is_within side limit b.price) (cond (beats (opposite_of side) x b) x b) x)) (cond (is_within side limit b.price) (Some b) None)
    left_side = elim (is_within side limit b.price) as (λ w. cond (is_on (opposite_of side) x && is_within side limit x.price) (Some (better (opposite_of side) (cond w (Some b) None) x)) (cond w (Some b) None) ≡ cond (is_on (opposite_of side) x && is_within side limit x.price) (Some (cond w (cond (beats (opposite_of side) x b) x b) x)) (cond w (Some b) None)) [ true ↦ refl | false ↦ refl ]

    right_side : cond (is_on (opposite_of side) x) (cond (beats (opposite_of side) x b) (cond (is_within side limit x.price) (Some x) None) (cond (is_within side limit b.price) (Some b) None)) (cond (is_within side limit b.price) (Some b) None) ≡ gate side limit (step (opposite_of side) (is_on (opposite_of side)) (Some b) x)
    right_side = elim (is_on (opposite_of side) x) as (λ c. cond c (cond (beats (opposite_of side) x b) (cond (is_within side limit x.price) (Some x) None) (cond (is_within side limit b.price) (Some b) None)) (cond (is_within side limit b.price) (Some b) None) ≡ gate side limit (cond c (Some (cond (beats (opposite_of side) x b) x b)) (Some b))) [
      | true ↦ elim (beats (opposite_of side) x b) as (λ d. cond d (cond (is_within side limit x.price) (Some x) None) (cond (is_within side limit b.price) (Some b) None) ≡ gate side limit (Some (cond d x b))) [ true ↦ refl | false ↦ refl ]
      | false ↦ refl
    ]

gate_fold : (side : Side) (limit : ℕ) (first : Option Resting) (w : List Resting) → fold (step (opposite_of side) (crosses side limit)) (gate side limit first) w ≡ gate side limit (fold (step (opposite_of side) (is_on (opposite_of side))) first w)
gate_fold side limit first [] = refl
gate_fold side limit first (x ∷ w) =
    ap (λ (b : Option Resting). fold (step (opposite_of side) (crosses side limit)) b w) (gate_step side limit first x) ∙ gate_fold side limit (step (opposite_of side) (is_on (opposite_of side)) first x) w

-- ---- the first order of a side is that of the shown or that of the hidden ones
-- a price that is that of a hidden order, by ranks
hidden_rank : (s : Side) (b a : Resting) → b.shown ≡ false → is_better s b.price a.price ≡ is_better s (rank s b) (rank s a)
hidden_rank s b a e = sym (beats_hidden s b a e) ∙ beats_rank s b a

flipped : (c d : Bool) (x b : Resting) → (c ≡ false → d ≡ true) → (c ≡ true → d ≡ false) → cond c x b ≡ cond d b x
flipped true true x b f g = absurd (cc (g refl))
flipped true false x b f g = refl
flipped false true x b f g = refl
flipped false false x b f g = absurd (cc (f refl))

-- of a shown order x and a hidden one b
meet : (s : Side) (x b : Resting) → x.shown ≡ true → b.shown ≡ false → cond (beats s x b) x b ≡ cond (is_better s b.price x.price) b x
meet s x b e k =
    flipped (beats s x b) (is_better s b.price x.price) x b
    (λ h. hidden_rank s b x k ∙ either s (rank s x) (rank s b) (ranks_apart s x b e k) (sym (beats_rank s x b) ∙ h))
    (λ h. hidden_rank s b x k ∙ one_way s (rank s x) (rank s b) (sym (beats_rank s x b) ∙ h))

shown_both : (s : Side) (a b x : Resting) → b.shown ≡ false → x.shown ≡ true → (p q : Bool) → is_better s b.price a.price ≡ p → beats s x a ≡ q → cond (beats s x (cond p b a)) x (cond p b a) ≡ cond (is_better s b.price (cond q x a).price) b (cond q x a)
shown_both s a b x k e true true hp hq = meet s x b e k
shown_both s a b x k e true false hp hq =
    let u : beats s x b ≡ false = beats_rank s x b ∙ behind s (rank s x) (rank s b) (rank s a) (sym (hidden_rank s b a k) ∙ hp) (sym (beats_rank s x a) ∙ hq) in
    ap (λ c. cond c x b) u ∙ sym (ap (λ c. cond c b a) hp)
shown_both s a b x k e false true hp hq =
    let v : is_better s b.price x.price ≡ false = hidden_rank s b x k ∙ behind s (rank s b) (rank s x) (rank s a) (sym (beats_rank s x a) ∙ hq) (sym (hidden_rank s b a k) ∙ hp) in
    ap (λ c. cond c x a) hq ∙ sym (ap (λ c. cond c b x) v)
shown_both s a b x k e false false hp hq = ap (λ c. cond c x a) hq ∙ sym (ap (λ c. cond c b a) hp)

hidden_both : (s : Side) (a b x : Resting) → b.shown ≡ false → x.shown ≡ false → (p u : Bool) → is_better s b.price a.price ≡ p → beats s x b ≡ u → cond (beats s x (cond p b a)) x (cond p b a) ≡ cond (is_better s (cond u x b).price a.price) (cond u x b) a
hidden_both s a b x k e true true hp hu =
    let v : is_better s x.price a.price ≡ true = hidden_rank s x a e ∙ better_through s (rank s x) (rank s b) (rank s a) (sym (beats_rank s x b) ∙ hu) (sym (hidden_rank s b a k) ∙ hp) in
    ap (λ c. cond c x b) hu ∙ sym (ap (λ c. cond c x a) v)
hidden_both s a b x k e true false hp hu = ap (λ c. cond c x b) hu ∙ sym (ap (λ c. cond c b a) hp)
hidden_both s a b x k e false true hp hu = ap (λ c. cond c x a) (beats_hidden s x a e)
hidden_both s a b x k e false false hp hu =
    let v : beats s x a ≡ false = beats_rank s x a ∙ no_better s (rank s x) (rank s b) (rank s a) (sym (beats_rank s x b) ∙ hu) (sym (hidden_rank s b a k) ∙ hp) in
    ap (λ c. cond c x a) v ∙ sym (ap (λ c. cond c b a) hp)

step_shown : (s : Side) (a b : Option Resting) (x : Resting) → IfSome b (λ o. o.shown ≡ false) → x.shown ≡ true → Some (better s (better_of s a b) x) ≡ better_of s (Some (better s a x)) b
step_shown s None None x k e = refl
step_shown s None (Some b) x k e = ap (λ (y : Resting). Some y) (meet s x b e k)
step_shown s (Some a) None x k e = refl
step_shown s (Some a) (Some b) x k e = ap (λ (y : Resting). Some y) (shown_both s a b x k e (is_better s b.price a.price) (beats s x a) refl refl)

step_hidden : (s : Side) (a b : Option Resting) (x : Resting) → IfSome b (λ o. o.shown ≡ false) → x.shown ≡ false → Some (better s (better_of s a b) x) ≡ better_of s a (Some (better s b x))
step_hidden s None None x k e = refl
step_hidden s None (Some b) x k e = refl
step_hidden s (Some a) None x k e = ap (λ c. Some (cond c x a)) (beats_hidden s x a e)
step_hidden s (Some a) (Some b) x k e = ap (λ (y : Resting). Some y) (hidden_both s a b x k e (is_better s b.price a.price) (beats s x b) refl refl)

stays_hidden : (s : Side) (b : Option Resting) (x : Resting) → IfSome b (λ o. o.shown ≡ false) → x.shown ≡ false → (better s b x).shown ≡ false
stays_hidden s None x k e = e
stays_hidden s (Some b) x k e = elim (beats s x b) as (λ c. (cond c x b).shown ≡ false) [ true ↦ e | false ↦ k ]

-- the searches among all orders of a side, the shown and the hidden ones, from where they stand
abbrev IsSplit : Side → List Resting → Option Resting → Option Resting → Type 0
IsSplit s w a b = fold (step s (is_on s)) (better_of s a b) w ≡ better_of s (fold (step s (is_in (shown_of s))) a w) (fold (step s (is_in (hidden_of s))) b w)

parted_step : (s : Side) (x : Resting) (w : List Resting) (a b : Option Resting) → IfSome b (λ o. o.shown ≡ false) → ((a b : Option Resting) → IfSome b (λ o. o.shown ≡ false) → IsSplit s w a b) → (on shown : Bool) → x.shown ≡ shown
    → fold (step s (is_on s)) (cond on (Some (better s (better_of s a b) x)) (better_of s a b)) w ≡ better_of s (fold (step s (is_in (shown_of s))) (cond (on && shown) (Some (better s a x)) a) w) (fold (step s (is_in (hidden_of s))) (cond (on && not shown) (Some (better s b x)) b) w)
parted_step s x w a b k f false shown e = f a b k
parted_step s x w a b k f true true e = ap (λ (o : Option Resting). fold (step s (is_on s)) o w) (step_shown s a b x k e) ∙ f (Some (better s a x)) b k
parted_step s x w a b k f true false e = ap (λ (o : Option Resting). fold (step s (is_on s)) o w) (step_hidden s a b x k e) ∙ f a (Some (better s b x)) (stays_hidden s b x k e)

parted : (s : Side) (w : List Resting) (a b : Option Resting) → IfSome b (λ o. o.shown ≡ false) → IsSplit s w a b
parted s [] a b k = refl
parted s (x ∷ w) a b k = parted_step s x w a b k (λ a b k. parted s w a b k) (is_on s x) x.shown refl

pub first_is : (s : Side) (w : List Resting) → first_on s w ≡ better_of s (top_in (shown_of s) w) (top_in (hidden_of s) w)
first_is s w =
    folded s (is_on s) w
    ∙ parted s w None None tt
    ∙ ap (λ (a : Option Resting). better_of s a (fold (step s (is_in (hidden_of s))) None w)) (sym (folded s (is_in (shown_of s)) w))
    ∙ ap (better_of s (top_in (shown_of s) w)) (sym (folded s (is_in (hidden_of s)) w))

-- ---- the next order
-- the next order is the first of the other side, if that crosses
pub next_by_top : (side : Side) (limit : ℕ) (w : List Resting) → next_of w side limit ≡ gate side limit (first_on (opposite_of side) w)
next_by_top side limit w =
    folded (opposite_of side) (crosses side limit) w ∙ gate_fold side limit None w ∙ ap (gate side limit) (sym (folded (opposite_of side) (is_on (opposite_of side)) w))

first_at : (side other : Side) (s v : List Resting) (top : Option (ℕ × Resting)) → s ≡ v → other ≡ opposite_of side → option_map (λ p. p.1) top ≡ first_on other s → first_on (opposite_of side) v ≡ option_map (λ p. p.1) top
first_at side other s v top same side_is first = cc

-- the same by what the search answered for the slice s of the items w, which have two names
pub next-none : (side other : Side) (limit : ℕ) (s w v : List Resting) (top : Option (ℕ × Resting)) → s ≡ w → w ≡ v → other ≡ opposite_of side → option_map (λ p. p.1) top ≡ first_on other s → top ≡ None → next_of v side limit ≡ None
next-none side other limit s w v top seen same side_is first is =
    next_by_top side limit v ∙ ap (gate side limit) (first_at side other s v top (seen ∙ same) side_is first ∙ ap (option_map (λ p. p.1)) is)

pub next-beyond : (side other : Side) (limit : ℕ) (s w v : List Resting) (top : Option (ℕ × Resting)) (i : ℕ) (o : Resting) → s ≡ w → w ≡ v → other ≡ opposite_of side → option_map (λ p. p.1) top ≡ first_on other s → top ≡ Some (i, o) → is_within side limit o.price ≡ false → next_of v side limit ≡ None
next-beyond side other limit s w v top i o seen same side_is first is h =
    next_by_top side limit v ∙ ap (gate side limit) (first_at side other s v top (seen ∙ same) side_is first ∙ ap (option_map (λ p. p.1)) is) ∙ ap (λ b. cond b (Some o) None) h

pub next-within : (side other : Side) (limit : ℕ) (s w v : List Resting) (top : Option (ℕ × Resting)) (i : ℕ) (o : Resting) → s ≡ w → w ≡ v → other ≡ opposite_of side → option_map (λ p. p.1) top ≡ first_on other s → top ≡ Some (i, o) → is_within side limit o.price ≡ true → next_of v side limit ≡ Some o
next-within side other limit s w v top i o seen same side_is first is h =
    next_by_top side limit v ∙ ap (gate side limit) (first_at side other s v top (seen ∙ same) side_is first ∙ ap (option_map (λ p. p.1)) is) ∙ ap (λ b. cond b (Some o) None) h
