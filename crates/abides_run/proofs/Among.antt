-- Names among more names.
use Rattle.std.proofs.Common.{ℕ, List, [], ◌∷◌, ◌++◌, inl, inr}
use Rattle.abides_run.specs.Fetched.{IsAmong}

pub among_first : (name first : List ℕ) (names : List (List ℕ)) → IsAmong name (first ∷ []) → IsAmong name (first ∷ names)
among_first name first names (inl is) = inl is
among_first name first names (inr none) = absurd none

pub among_before : (name : List ℕ) (xs ys : List (List ℕ)) → IsAmong name xs → IsAmong name (xs ++ ys)
among_before name [] ys none = absurd none
among_before name (x ∷ xs) ys (inl is) = inl is
among_before name (x ∷ xs) ys (inr a) = inr (among_before name xs ys a)

pub among_behind : (name : List ℕ) (xs ys : List (List ℕ)) → IsAmong name ys → IsAmong name (xs ++ ys)
among_behind name [] ys a = a
among_behind name (x ∷ xs) ys a = inr (among_behind name xs ys a)
