-- A list around one of its places.
use Rattle.std.proofs.Common.{◌≡◌, ℕ, zero, suc, ◌<◌, List, [], ◌∷◌, ◌++◌, length, take, drop, set, slice_index_or, refl, ap, arith}

module _ {A : Type 0} where
  pub cut_at : (xs : List A) (n : ℕ) (d : A) → n < length xs → xs ≡ take n xs ++ slice_index_or xs n d ∷ drop (suc n) xs
  cut_at [] n d lt = absurd (omega arith)
  cut_at (x ∷ xs) zero d lt = refl
  cut_at (x ∷ xs) (suc n) d lt = ap (λ l. x ∷ l) (cut_at xs n d (omega arith))

  pub set_cut : (xs : List A) (n : ℕ) (b : A) → n < length xs → set xs n b ≡ take n xs ++ b ∷ drop (suc n) xs
  set_cut [] n b lt = absurd (omega arith)
  set_cut (x ∷ xs) zero b lt = refl
  set_cut (x ∷ xs) (suc n) b lt = ap (λ l. x ∷ l) (set_cut xs n b (omega arith))

  pub set_back : (xs : List A) (n : ℕ) (d : A) → set xs n (slice_index_or xs n d) ≡ xs
  set_back [] n d = refl
  set_back (x ∷ xs) zero d = refl
  set_back (x ∷ xs) (suc n) d = ap (λ l. x ∷ l) (set_back xs n d)
