-- Texts that are compared byte for byte.
use Rattle.std.proofs.Common.{◌≡◌, ℕ, true, false, List, bytes_eq, sym, ◌∙◌, inl, inr}
use Rattle.std.proofs.lemmas.Bool.{cases_Bool, false≢true}
use Rattle.std.proofs.lemmas.Slice.Eq.{bytes_eq-Decides}

pub same-bytes : (xs ys : List ℕ) → bytes_eq xs ys ≡ true → xs ≡ ys
same-bytes xs ys h = (bytes_eq-Decides xs ys).0 h

pub other-bytes : (xs ys : List ℕ) → bytes_eq xs ys ≡ false → bytes_eq ys xs ≡ false
other-bytes xs ys h = elim (cases_Bool (bytes_eq ys xs)) [
  | inl is ↦ absurd (false≢true (sym h ∙ (bytes_eq-Decides xs ys).1 (sym ((bytes_eq-Decides ys xs).0 is))))
  | inr is ↦ is
]
