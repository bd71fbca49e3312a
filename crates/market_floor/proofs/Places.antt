-- The places of two lists that stand one behind the other.
use Rattle.std.proofs.Common.{◌≡◌, ◌-◌, ◌++◌, ℕ, zero, suc, List, [], ◌∷◌, Some, None, length, ap, ◌∙◌, arith}
use Rattle.std.specs.Prelude.{slice_get}

pub in-front : {A : Type 0} (xs ys : List A) (i : ℕ) (x : A) → Some x ≡ slice_get xs i → Some x ≡ slice_get (xs ++ ys) i
in-front [] ys i x e = cc
in-front (y ∷ xs) ys zero x e = e
in-front (y ∷ xs) ys (suc i) x e = in-front xs ys i x e

pub behind : {A : Type 0} (xs ys : List A) (i : ℕ) → None ≡ slice_get xs i → slice_get ys (i - length xs) ≡ slice_get (xs ++ ys) i
behind [] ys i e =
    let same : i - 0 ≡ i = omega arith in
    ap (slice_get ys) same
behind (y ∷ xs) ys zero e = cc
behind (y ∷ xs) ys (suc i) e =
    let same : suc i - suc (length xs) ≡ i - length xs = omega arith in
    ap (slice_get ys) same ∙ behind xs ys i e
