-- Lemmas on where a list leaves its order.
use Rattle.std.proofs.Common.{◌≡◌, ℕ, ◌+◌, ◌<◌, Bool, true, false, cond, List, [], ◌∷◌, Some, None, length, get_or, refl, sym, ap, ◌∙◌, arith, suc, zero, subst}
use Rattle.market_rules.specs.Breaks.{break_after, first_break}

pub break_none : {X : Type 0} (follows : X → X → Bool) (b : X) (k : ℕ) (xs : List X) (d : X) → ((j : ℕ) → j < length xs → follows (get_or (b ∷ xs) j d) (get_or xs j d) ≡ true) → break_after follows b k xs ≡ None
break_none follows b k [] d h = refl
break_none follows b k (x ∷ xs) d h =
    let e : follows b x ≡ true = h 0 (omega arith) in
    rw e (break_none follows x (k + 1) xs d (λ j l. h (suc j) (omega arith)))

pub break_here : {X : Type 0} (follows : X → X → Bool) (b : X) (k : ℕ) (xs : List X) (d : X) (i : ℕ) → i < length xs → ((j : ℕ) → j < i → follows (get_or (b ∷ xs) j d) (get_or xs j d) ≡ true) → follows (get_or (b ∷ xs) i d) (get_or xs i d) ≡ false → break_after follows b k xs ≡ Some (k + i)
break_here follows b k [] d i l h e = absurd (omega arith)
break_here follows b k (x ∷ xs) d zero l h e = let e' : follows b x ≡ false = e in rw e' (ap (λ n. Some n) (omega arith))
break_here follows b k (x ∷ xs) d (suc i) l h e =
    let t : follows b x ≡ true = h 0 (omega arith) in
    rw t (break_here follows x (k + 1) xs d i (omega arith) (λ j m. h (suc j) (omega arith)) e ∙ ap (λ n. Some n) (omega arith))

-- in a list that never leaves its order each item follows the one before it
pub never_breaks : {X : Type 0} (follows : X → X → Bool) (b : X) (k : ℕ) (xs : List X) (d : X) → break_after follows b k xs ≡ None → (j : ℕ) → j < length xs → follows (get_or (b ∷ xs) j d) (get_or xs j d) ≡ true
never_breaks follows b k [] d e j l = absurd (omega arith)
never_breaks follows b k (x ∷ xs) d e zero l = elim (follows b x) as (λ t. cond t (break_after follows x (k + 1) xs) (Some k) ≡ None → t ≡ true) [ true ↦ λ h. refl | false ↦ λ h. cc ] e
never_breaks follows b k (x ∷ xs) d e (suc j) l =
    never_breaks follows x (k + 1) xs d (elim (follows b x) as (λ t. cond t (break_after follows x (k + 1) xs) (Some k) ≡ None → break_after follows x (k + 1) xs ≡ None) [ true ↦ λ h. h | false ↦ λ h. cc ] e) j (omega arith)

-- the same of whole lists, by places: place n follows place j
pub first_break_none : {X : Type 0} (follows : X → X → Bool) (xs : List X) (d : X) → ((j n : ℕ) → suc j ≡ n → n < length xs → follows (get_or xs j d) (get_or xs n d) ≡ true) → first_break follows xs ≡ None
first_break_none follows [] d h = refl
first_break_none follows (x ∷ xs) d h = break_none follows x 1 xs d (λ j l. h j (suc j) refl (omega arith))

pub first_break_here : {X : Type 0} (follows : X → X → Bool) (xs : List X) (d : X) (i m : ℕ) → suc i ≡ m → m < length xs → ((j n : ℕ) → suc j ≡ n → n < m → follows (get_or xs j d) (get_or xs n d) ≡ true) → follows (get_or xs i d) (get_or xs m d) ≡ false → first_break follows xs ≡ Some m
first_break_here follows [] d i m s l h e = absurd (omega arith)
first_break_here follows (x ∷ xs) d i m s l h e =
    let e' : follows (get_or (x ∷ xs) i d) (get_or xs i d) ≡ false = subst (λ n. follows (get_or (x ∷ xs) i d) (get_or (x ∷ xs) n d) ≡ false) (sym s) e in
    break_here follows x 1 xs d i (omega arith) (λ j l. h j (suc j) refl (omega arith)) e' ∙ ap (λ n. Some n) (omega arith)

pub first_break_never : {X : Type 0} (follows : X → X → Bool) (xs : List X) (d : X) → first_break follows xs ≡ None → (j : ℕ) → suc j < length xs → follows (get_or xs j d) (get_or xs (suc j) d) ≡ true
first_break_never follows [] d e j l = absurd (omega arith)
first_break_never follows (x ∷ xs) d e j l = never_breaks follows x 1 xs d e j (omega arith)
