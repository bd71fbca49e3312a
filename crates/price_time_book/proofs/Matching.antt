-- Lemmas on the way of an incoming order through a book.
use Rattle.std.proofs.Common.{◌≡◌, ◌≢◌, ◌⊎◌, ℕ, suc, zero, ◌-◌, ◌<◌, ◌≤◌, Bool, true, false, not, cond, eqb, List, [], ◌∷◌, Option, Some, None, length, sym, ap, refl, ◌∙◌, arith, inl, inr, filter, subst}
use Rattle.std.specs.Prelude.{min}
use Rattle.std.specs.List.{best_of}
use Rattle.std.proofs.lemmas.Bool.{cases_Bool, cases_eq, cases_lt, eq-eqb, ne_eqb}
use Rattle.market_types.specs.declared.order.Side.{Side}
use Rattle.price_time_book.specs.declared.resting.Resting.{Resting}
use Rattle.price_time_book.specs.Matched.{Matching, IsEnded, completed, fill_of, matched_by, with_fill, with_next}
use Rattle.price_time_book.specs.Next.{beats, crosses, first_best, next_of}
use Rattle.price_time_book.specs.Orders.{changed, without}
use Rattle.price_time_book.specs.Sides.{opposite_of}

-- ---- the next order is one of the book
abbrev pub IsAmong : Resting → List Resting → Type 0
IsAmong o [] = ⊥
IsAmong o (x ∷ w) = (x ≡ o) ⊎ IsAmong o w

best_among : (beats : Resting → Resting → Bool) (a o : Resting) (w : List Resting) → best_of beats a w ≡ o → IsAmong o (a ∷ w)
best_among beats a o [] e = inl e
best_among beats a o (x ∷ w) e =
    elim (cases_Bool (beats x a)) [
      | inl h ↦ inr (best_among beats x o w (ap (λ (y : Resting). best_of beats y w) (sym (ap (λ b. cond b x a) h)) ∙ e))
      | inr h ↦ keep (best_among beats a o w (ap (λ (y : Resting). best_of beats y w) (sym (ap (λ b. cond b x a) h)) ∙ e))
    ]
  where
    keep : IsAmong o (a ∷ w) → IsAmong o (a ∷ (x ∷ w))
    keep (inl k) = inl k
    keep (inr k) = inr (inr k)

pub first_among : (side : Side) (o : Resting) (w : List Resting) → first_best side w ≡ Some o → IsAmong o w
first_among side o [] e = absurd (cc e)
first_among side o (x ∷ w) e = let best : best_of (beats side) x w ≡ o = cc e in best_among (beats side) x o w best

pub among-filter : (p : Resting → Bool) (o : Resting) (w : List Resting) → IsAmong o (filter p w) → IsAmong o w
among-filter p o [] a = a
among-filter p o (x ∷ w) a =
    elim (cases_Bool (p x)) [
      | inl h ↦ keep (among-filter p o w) (subst (λ b. IsAmong o (cond b (x ∷ filter p w) (filter p w))) h a)
      | inr h ↦ inr (among-filter p o w (subst (λ b. IsAmong o (cond b (x ∷ filter p w) (filter p w))) h a))
    ]
  where
    keep : (IsAmong o (filter p w) → IsAmong o w) → IsAmong o (x ∷ filter p w) → IsAmong o (x ∷ w)
    keep f (inl k) = inl k
    keep f (inr k) = inr (f k)

-- ---- one that leaves makes the book shorter
without_le : (n : ℕ) (w : List Resting) → length (without n w) ≤ length w
without_le n [] = omega arith
without_le n (x ∷ w) = elim (not (eqb x.reference n)) as (λ b. length (cond b (x ∷ without n w) (without n w)) ≤ length (x ∷ w)) [ true ↦ omega (arith, without_le n w) | false ↦ omega (arith, without_le n w) ]

pub without_lt : (o : Resting) (w : List Resting) → IsAmong o w → length (without o.reference w) < length w
without_lt o [] a = absurd a
without_lt o (x ∷ w) (inl k) =
    let b : eqb x.reference o.reference ≡ true = eq-eqb x.reference o.reference (ap (λ (y : Resting). y.reference) k) in
    rw b (omega (arith, without_le o.reference w))
without_lt o (x ∷ w) (inr k) =
    elim (not (eqb x.reference o.reference)) as (λ b. length (cond b (x ∷ without o.reference w) (without o.reference w)) < length (x ∷ w)) [ true ↦ omega (arith, without_lt o w k) | false ↦ omega (arith, without_lt o w k) ]

changed_lt : (o x : Resting) (w : List Resting) → IsAmong o w → x.reference ≡ o.reference → x.left ≡ 0 → length (changed x w) < length w
changed_lt o x w a same none =
    let b : eqb x.left 0 ≡ true = eq-eqb x.left 0 none in
    rw b (subst (λ (n : ℕ). length (without n w) < length w) (sym same) (without_lt o w a))

-- a fill ends an order or takes one out of the book
pub progress : (side : Side) (limit : ℕ) (m : Matching) (o : Resting) → next_of m.book side limit ≡ Some o → ((with_fill (fill_of m.shares o) m).shares ≡ 0) ⊎ (length (with_fill (fill_of m.shares o) m).book < length m.book)
progress side limit m o e =
    elim (cases_lt o.left m.shares) [
      | inl h ↦ inr (changed_lt o (record o { left = o.left - min o.left m.shares }) m.book (among-filter (crosses side limit) o m.book (first_among (opposite_of side) o (filter (crosses side limit) m.book) e)) refl (omega arith))
      | inr h ↦ inl (omega arith)
    ]

-- ---- an ended way stays as it is
pub still : (next : Option Resting) (m : Matching) → m.shares ≡ 0 → with_next next m ≡ m
still None m none = refl
still (Some o) m none = let b : eqb m.shares 0 ≡ true = eq-eqb m.shares 0 none in ap (λ c. cond c m (with_fill (fill_of m.shares o) m)) b

stays : (side : Side) (limit : ℕ) (m : Matching) → IsEnded side limit m → with_next (next_of m.book side limit) m ≡ m
stays side limit m (inl none) = still (next_of m.book side limit) m none
stays side limit m (inr none) = ap (λ (o : Option Resting). with_next o m) none

pub matched_ended : (n : ℕ) (side : Side) (limit : ℕ) (m : Matching) → IsEnded side limit m → matched_by n side limit m ≡ m
matched_ended zero side limit m h = refl
matched_ended (suc n) side limit m h = ap (matched_by n side limit) (stays side limit m h) ∙ matched_ended n side limit m h

pub goes : (side : Side) (limit : ℕ) (m : Matching) (o : Resting) → next_of m.book side limit ≡ Some o → m.shares ≢ 0 → with_next (next_of m.book side limit) m ≡ with_fill (fill_of m.shares o) m
goes side limit m o e some =
    let b : eqb m.shares 0 ≡ false = ne_eqb m.shares 0 some in
    ap (λ (n : Option Resting). with_next n m) e ∙ ap (λ c. cond c m (with_fill (fill_of m.shares o) m)) b

-- a way is at its end, or goes on
data Turn (side : Side) (limit : ℕ) (m : Matching) : Type 0 where
  ended : IsEnded side limit m → Turn side limit m
  going : (o : Resting) → next_of m.book side limit ≡ Some o → m.shares ≢ 0 → Turn side limit m

turn : (side : Side) (limit : ℕ) (m : Matching) → Turn side limit m
turn side limit m = by_next (next_of m.book side limit) refl
  where
    by_next : (next : Option Resting) → next_of m.book side limit ≡ next → Turn side limit m
    by_next None e = ended (inr e)
    by_next (Some o) e = elim (cases_eq m.shares 0) [ inl h ↦ ended (inl h) | inr h ↦ going o e h ]

none_of_none : (side : Side) (limit : ℕ) (w : List Resting) → length w ≤ 0 → next_of w side limit ≡ None
none_of_none side limit [] h = refl
none_of_none side limit (x ∷ w) h = absurd (omega arith)

-- as many turns as there are orders suffice
pub matched_enough : (n : ℕ) (side : Side) (limit : ℕ) (m : Matching) → length m.book ≤ n → IsEnded side limit (matched_by n side limit m)
matched_enough zero side limit m h = inr (none_of_none side limit m.book h)
matched_enough (suc n) side limit m h = enough_by n side limit m (turn side limit m) h (λ k g. matched_enough n side limit k g)
  where
    after : (n : ℕ) (side : Side) (limit : ℕ) (m k : Matching) → (k.shares ≡ 0) ⊎ (length k.book < length m.book) → length m.book ≤ suc n → ((k : Matching) → length k.book ≤ n → IsEnded side limit (matched_by n side limit k)) → IsEnded side limit (matched_by n side limit k)
    after n side limit m k (inl none) h f = subst (IsEnded side limit) (sym (matched_ended n side limit k (inl none))) (inl none)
    after n side limit m k (inr less) h f = f k (omega arith)

    enough_by : (n : ℕ) (side : Side) (limit : ℕ) (m : Matching) → Turn side limit m → length m.book ≤ suc n → ((k : Matching) → length k.book ≤ n → IsEnded side limit (matched_by n side limit k)) → IsEnded side limit (matched_by (suc n) side limit m)
    enough_by n side limit m (ended e) h f = subst (IsEnded side limit) (sym (matched_ended (suc n) side limit m e)) e
    enough_by n side limit m (going o e some) h f = subst (λ (k : Matching). IsEnded side limit (matched_by n side limit k)) (sym (goes side limit m o e some)) (after n side limit m (with_fill (fill_of m.shares o) m) (progress side limit m o e) h f)

-- more turns change nothing
pub matched_same : (n k : ℕ) (side : Side) (limit : ℕ) (m : Matching) → length m.book ≤ n → length m.book ≤ k → matched_by n side limit m ≡ matched_by k side limit m
matched_same zero k side limit m h g = sym (matched_ended k side limit m (inr (none_of_none side limit m.book h)))
matched_same (suc n) zero side limit m h g = matched_ended (suc n) side limit m (inr (none_of_none side limit m.book g))
matched_same (suc n) (suc k) side limit m h g = same_by n k side limit m (turn side limit m) h g (λ l h' g'. matched_same n k side limit l h' g')
  where
    after : (n k : ℕ) (side : Side) (limit : ℕ) (m l : Matching) → (l.shares ≡ 0) ⊎ (length l.book < length m.book) → length m.book ≤ suc n → length m.book ≤ suc k → ((l : Matching) → length l.book ≤ n → length l.book ≤ k → matched_by n side limit l ≡ matched_by k side limit l) → matched_by n side limit l ≡ matched_by k side limit l
    after n k side limit m l (inl none) h g f = matched_ended n side limit l (inl none) ∙ sym (matched_ended k side limit l (inl none))
    after n k side limit m l (inr less) h g f = f l (omega arith) (omega arith)

    same_by : (n k : ℕ) (side : Side) (limit : ℕ) (m : Matching) → Turn side limit m → length m.book ≤ suc n → length m.book ≤ suc k → ((l : Matching) → length l.book ≤ n → length l.book ≤ k → matched_by n side limit l ≡ matched_by k side limit l) → matched_by (suc n) side limit m ≡ matched_by (suc k) side limit m
    same_by n k side limit m (ended e) h g f = matched_ended (suc n) side limit m e ∙ sym (matched_ended (suc k) side limit m e)
    same_by n k side limit m (going o e some) h g f = ap (matched_by n side limit) (goes side limit m o e some) ∙ after n k side limit m (with_fill (fill_of m.shares o) m) (progress side limit m o e) h g f ∙ sym (ap (matched_by k side limit) (goes side limit m o e some))

-- a way that has gone on for one fill is the same way
pub completed_goes : (side : Side) (limit : ℕ) (m : Matching) (o : Resting) → next_of m.book side limit ≡ Some o → m.shares ≢ 0 → completed side limit m ≡ completed side limit (with_fill (fill_of m.shares o) m)
completed_goes side limit m o e some =
    matched_same (length m.book) (suc (length m.book)) side limit m (omega arith) (omega arith) ∙ ap (matched_by (length m.book) side limit) (goes side limit m o e some) ∙ after (progress side limit m o e)
  where
    after : ((with_fill (fill_of m.shares o) m).shares ≡ 0) ⊎ (length (with_fill (fill_of m.shares o) m).book < length m.book) → matched_by (length m.book) side limit (with_fill (fill_of m.shares o) m) ≡ completed side limit (with_fill (fill_of m.shares o) m)
    after (inl none) = matched_ended (length m.book) side limit (with_fill (fill_of m.shares o) m) (inl none) ∙ sym (matched_ended (length (with_fill (fill_of m.shares o) m).book) side limit (with_fill (fill_of m.shares o) m) (inl none))
    after (inr less) = matched_same (length m.book) (length (with_fill (fill_of m.shares o) m).book) side limit (with_fill (fill_of m.shares o) m) (omega arith) (omega arith)
