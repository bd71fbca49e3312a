-- Lists, and lists of views.
use Rattle.std.proofs.Common.{◌≡◌, ◌≢◌, ℕ, zero, suc, ◌+◌, ◌<◌, ◌≤◌, Bool, true, false, List, [], ◌∷◌, ◌++◌, Option, Some, None, slice_get, map, length, set, sym, refl, ap, subst, ⊎_elim, arith, eq-eqb, ne_eqb, inl, inr, ◌⊎◌}
use mathlib.Core.Logic.{dite}
use native.Mathlib.Decide.{dec_le, ℕ_discrete}
use Rattle.shelf_core.specs.Views.{times, total, changed_at, turns_at}
use Rattle.shelf_core.specs.Sound.{ForViews}
use Rattle.shelf_core.specs.declared.seat.SeatView.{SeatView}
use Rattle.shelf_core.specs.declared.plan.Key.{Key}

pub bool_cases : (b : Bool) → (b ≡ true) ⊎ (b ≡ false)
bool_cases true = inl refl
bool_cases false = inr refl

out : {A : Type 0} → A → Option A → A
out a None = a
out a (Some x) = x

pub some_same : {A : Type 0} (a b : A) → Some a ≡ Some b → a ≡ b
unfolding out
some_same {A} a b e = ap (λ (o : Option A). out a o) e

Full : {A : Type 0} → Option A → Type 0
Full None = ⊥
Full (Some x) = Unit {0}

pub not_some : {A : Type 0} (a : A) → None ≡ Some a → ⊥
unfolding Full
not_some {A} a e = subst (λ (o : Option A). Full o) (sym e) tt

module _ {A : Type 0} where
  pub within : (l : List A) (i : ℕ) (a : A) → slice_get l i ≡ Some a → i < length l
  within [] i a e = absurd (not_some a e)
  within (x ∷ xs) zero a e = omega arith
  within (x ∷ xs) (suc i) a e = let h : i < length xs = within xs i a e in omega arith

  pub there : (l : List A) (i : ℕ) → i < length l → (a : A) × (slice_get l i ≡ Some a)
  there [] i h = absurd (omega arith)
  there (x ∷ xs) zero h = (x, refl)
  there (x ∷ xs) (suc i) h = there xs i (omega arith)

  pub at_set : (l : List A) (i j : ℕ) (a b : A) → slice_get (set l i a) j ≡ Some b → ((j ≡ i) × (a ≡ b)) ⊎ ((j ≢ i) × (slice_get l j ≡ Some b))
  at_set [] i j a b e = absurd (not_some b e)
  at_set (x ∷ xs) zero zero a b e = inl (refl, some_same a b e)
  at_set (x ∷ xs) zero (suc j) a b e = inr ((λ h. omega arith), e)
  at_set (x ∷ xs) (suc i) zero a b e = inr ((λ h. omega arith), e)
  at_set (x ∷ xs) (suc i) (suc j) a b e = ⊎_elim (λ (t : (j ≡ i) × (a ≡ b)). inl (ap suc t.0, t.1)) (λ (t : (j ≢ i) × (slice_get xs j ≡ Some b)). let n = t.0 in inr ((λ h. n (omega arith)), t.1)) (at_set xs i j a b e)

  pub set_here : (l : List A) (i : ℕ) (a b : A) → slice_get l i ≡ Some b → slice_get (set l i a) i ≡ Some a
  set_here [] i a b e = absurd (not_some b e)
  set_here (x ∷ xs) zero a b e = refl
  set_here (x ∷ xs) (suc i) a b e = set_here xs i a b e

  pub set_else : (l : List A) (i j : ℕ) (a : A) → j ≢ i → slice_get (set l i a) j ≡ slice_get l j
  set_else [] i j a n = refl
  set_else (x ∷ xs) zero zero a n = absurd (n refl)
  set_else (x ∷ xs) zero (suc j) a n = refl
  set_else (x ∷ xs) (suc i) zero a n = refl
  set_else (x ∷ xs) (suc i) (suc j) a n = set_else xs i j a (λ e. n (ap suc e))

  pub map_set : {B : Type 0} (f : A → B) (l : List A) (i : ℕ) (a : A) → map f (set l i a) ≡ set (map f l) i (f a)
  map_set f [] i a = refl
  map_set f (x ∷ xs) zero a = refl
  map_set f (x ∷ xs) (suc i) a = ap (λ m. f x ∷ m) (map_set f xs i a)

  pub at_end : (l : List A) (a b : A) (j : ℕ) → slice_get (l ++ a ∷ []) j ≡ Some b → (slice_get l j ≡ Some b) ⊎ ((j ≡ length l) × (a ≡ b))
  at_end [] a b zero e = inr (refl, some_same a b e)
  at_end [] a b (suc j) e = absurd (not_some b e)
  at_end (x ∷ xs) a b zero e = inl e
  at_end (x ∷ xs) a b (suc j) e = ⊎_elim inl (λ (z : (j ≡ length xs) × (a ≡ b)). inr (ap suc z.0, z.1)) (at_end xs a b j e)

  pub still_at : (l : List A) (a b : A) (j : ℕ) → slice_get l j ≡ Some b → slice_get (l ++ a ∷ []) j ≡ Some b
  still_at [] a b j e = absurd (not_some b e)
  still_at (x ∷ xs) a b zero e = e
  still_at (x ∷ xs) a b (suc j) e = still_at xs a b j e

-- the view of a seat, changed
pub changed_is_set : (change : SeatView → SeatView) (views : List SeatView) (n : ℕ) (v : SeatView) → slice_get views n ≡ Some v → changed_at change views n ≡ set views n (change v)
changed_is_set change [] n v e = absurd (not_some v e)
changed_is_set change (x ∷ xs) zero v e = ap (λ y. change y ∷ xs) (some_same x v e)
changed_is_set change (x ∷ xs) (suc n) v e = ap (λ l. x ∷ l) (changed_is_set change xs n v e)

pub for_set : (Fact : ℕ → SeatView → Type 0) (views : List SeatView) (n : ℕ) (w : SeatView) → Fact n w
    → ((i : ℕ) (u : SeatView) → i ≢ n → slice_get views i ≡ Some u → Fact i u) → ForViews (set views n w) Fact
for_set Fact views n w mine others i u e = ⊎_elim
    (λ (x : (i ≡ n) × (w ≡ u)). subst (λ (y : ℕ × SeatView). Fact y.0 y.1) (λ j. (sym x.0 j, x.1 j)) mine)
    (λ (x : (i ≢ n) × (slice_get views i ≡ Some u)). others i u x.0 x.1)
    (at_set views n i w u e)

pub for_end : (Fact : ℕ → SeatView → Type 0) (views : List SeatView) (w : SeatView) → Fact (length views) w → ForViews views Fact → ForViews (views ++ w ∷ []) Fact
for_end Fact views w mine others i u e = ⊎_elim (others i u)
    (λ (x : (i ≡ length views) × (w ≡ u)). subst (λ (y : ℕ × SeatView). Fact y.0 y.1) (λ j. (sym x.0 j, x.1 j)) mine)
    (at_end views w u i e)

-- how often a number stands
pub times_here : (n : ℕ) (ms : List ℕ) → times n (n ∷ ms) ≡ suc (times n ms)
times_here n ms = rw (eq-eqb n n refl) (omega arith)

pub times_else : (n m : ℕ) (ms : List ℕ) → m ≢ n → times n (m ∷ ms) ≡ times n ms
times_else n m ms ne = rw (ne_eqb m n ne) (omega arith)

pub times_append : (n : ℕ) (ms ks : List ℕ) → times n (ms ++ ks) ≡ times n ms + times n ks
times_append n [] ks = omega arith
times_append n (m ∷ ms) ks = let p : times n (ms ++ ks) ≡ times n ms + times n ks = times_append n ms ks in omega arith

pub times_one : (n m : ℕ) → ((m ≡ n) × (times n (m ∷ []) ≡ 1)) ⊎ ((m ≢ n) × (times n (m ∷ []) ≡ 0))
times_one n m = dite (ℕ_discrete m n)
    (λ e. inl (e, subst (λ z. times z (m ∷ []) ≡ 1) e (times_here m [])))
    (λ ne. inr (ne, times_else n m [] ne))

-- how many turns are at a place
pub turns_here : (p : ℕ) (k : Key) (ts : List (ℕ × Key)) → turns_at p ((p, k) ∷ ts) ≡ suc (turns_at p ts)
turns_here p k ts = rw (eq-eqb p p refl) (omega arith)

pub turns_else : (p q : ℕ) (k : Key) (ts : List (ℕ × Key)) → q ≢ p → turns_at p ((q, k) ∷ ts) ≡ turns_at p ts
turns_else p q k ts ne = rw (ne_eqb q p ne) (omega arith)

pub turns_append : (p : ℕ) (ts us : List (ℕ × Key)) → turns_at p (ts ++ us) ≡ turns_at p ts + turns_at p us
turns_append p [] us = omega arith
turns_append p (t ∷ ts) us = let h : turns_at p (ts ++ us) ≡ turns_at p ts + turns_at p us = turns_append p ts us in omega arith

-- sums over views
pub total_set : (f : SeatView → ℕ) (views : List SeatView) (n : ℕ) (v w : SeatView) → slice_get views n ≡ Some v → total f (set views n w) + f v ≡ total f views + f w
total_set f [] n v w e = absurd (not_some v e)
total_set f (x ∷ xs) zero v w e = let p : f x ≡ f v = ap f (some_same x v e) in omega arith
total_set f (x ∷ xs) (suc n) v w e = let p : total f (set xs n w) + f v ≡ total f xs + f w = total_set f xs n v w e in omega arith

pub total_end : (f : SeatView → ℕ) (views : List SeatView) (w : SeatView) → total f (views ++ w ∷ []) ≡ total f views + f w
total_end f [] w = omega arith
total_end f (x ∷ xs) w = let p : total f (xs ++ w ∷ []) ≡ total f xs + f w = total_end f xs w in omega arith

pub total_le : (f g : SeatView → ℕ) (views : List SeatView) → ForViews views (λ i v. f v ≤ g v) → total f views ≤ total g views
total_le f g [] h = omega arith
total_le f g (v ∷ vs) h = let a : f v ≤ g v = h 0 v refl in let b : total f vs ≤ total g vs = total_le f g vs (λ i u e. h (suc i) u e) in omega arith

pub total_one : (f : SeatView → ℕ) (views : List SeatView) (n : ℕ) (v : SeatView) → slice_get views n ≡ Some v → f v ≤ total f views
total_one f [] n v e = absurd (not_some v e)
total_one f (x ∷ xs) zero v e = let p : f x ≡ f v = ap f (some_same x v e) in omega arith
total_one f (x ∷ xs) (suc n) v e = let p : f v ≤ total f xs = total_one f xs n v e in omega arith

pub total_two : (f : SeatView → ℕ) (views : List SeatView) (n m : ℕ) (v w : SeatView) → m ≢ n → slice_get views n ≡ Some v → slice_get views m ≡ Some w → f v + f w ≤ total f views
total_two f [] n m v w ne e e' = absurd (not_some v e)
total_two f (x ∷ xs) zero zero v w ne e e' = absurd (ne refl)
total_two f (x ∷ xs) zero (suc m) v w ne e e' = let p : f x ≡ f v = ap f (some_same x v e) in let q : f w ≤ total f xs = total_one f xs m w e' in omega arith
total_two f (x ∷ xs) (suc n) zero v w ne e e' = let p : f x ≡ f w = ap f (some_same x w e') in let q : f v ≤ total f xs = total_one f xs n v e in omega arith
total_two f (x ∷ xs) (suc n) (suc m) v w ne e e' = let q : f v + f w ≤ total f xs = total_two f xs n m v w (λ z. ne (ap suc z)) e e' in omega arith

pub total_some : (f : SeatView → ℕ) (views : List SeatView) → 0 < total f views → (n : ℕ) × (v : SeatView) × (slice_get views n ≡ Some v) × (0 < f v)
total_some f [] h = absurd (omega arith)
total_some f (x ∷ xs) h = dite (dec_le (f x) 0)
    (λ z. let r = total_some f xs (omega arith) in (suc r.0, r.1, r.2, r.3))
    (λ z. (0, x, refl, omega arith))
