-- What the ranges of a message say of its fields.
use Rattle.std.proofs.Common.{◌≡◌, ℕ, ◌^◌, ◌<◌, ◌==◌, Bool, true, false, ◌&&◌, ◌||◌, ◌⊎◌, List, [], ◌∷◌, inl, inr, refl, subst}
use Rattle.std.proofs.lemmas.Bool.{and_parts, eqb-true, ltb-true}
use Rattle.wire_fields.specs.declared.kind.Kind.{Kind}
use Rattle.wire_fields.specs.declared.kind.Kind.TheVariants.{Number, Either}
use Rattle.wire_fields.specs.Kinds.{is_good}
use Rattle.wire_fields.specs.Values.{FieldValue, number, is_in_range}
use Rattle.wire_fields.specs.Wire.{are_in_range}
use Rattle.wire_fields.proofs.Spelled.{value_again}
use Rattle.bundle_frames.specs.Wires.{byte, letter_of_delivery, letter_of_silence}

-- each field by itself
abbrev pub AreIn : List Kind → List FieldValue → Type 0
AreIn [] vs = Unit {0}
AreIn (k ∷ ks) [] = Unit {0}
AreIn (k ∷ ks) (v ∷ vs) = (is_in_range k v ≡ true) × AreIn ks vs

pub are_in : (ks : List Kind) (vs : List FieldValue) → are_in_range ks vs ≡ true → AreIn ks vs
are_in [] vs h = tt
are_in (k ∷ ks) [] h = tt
are_in (k ∷ ks) (v ∷ vs) h = let parts = and_parts (is_in_range k v) (are_in_range ks vs) h in (parts.0, are_in ks vs parts.1)

-- a number of eight bytes
pub number_fits : (n : ℕ) → is_in_range (Number 8) (number n) ≡ true → n < 2 ^ 64
unfolding is_in_range
number_fits n h = ltb-true n (256 ^ 8) h

-- one of two letters
either_good : (a b d : ℕ) → is_good (Either (a ∷ b ∷ [])) (d ∷ []) ≡ true → (((a == d) || ((b == d) || false)) && true) ≡ true
unfolding is_good
either_good a b d h = h

one_of_two : (p q : Bool) → ((p || (q || false)) && true) ≡ true → (p ≡ true) ⊎ (q ≡ true)
one_of_two true q h = inl refl
one_of_two false true h = inr refl
one_of_two false false h = absurd cc

either_is : (a b d : ℕ) → is_in_range (Either (a ∷ b ∷ [])) (byte d) ≡ true → (a ≡ d) ⊎ (b ≡ d)
either_is a b d h =
    elim (one_of_two (a == d) (b == d) (either_good a b d (value_again (Either (a ∷ b ∷ [])) (byte d) h).good)) [
      | inl e ↦ inl (eqb-true a d e)
      | inr e ↦ inr (eqb-true b d e)
    ]

pub delivery_is : (d : ℕ) → is_in_range (Either (68 ∷ 80 ∷ [])) (byte d) ≡ true → letter_of_delivery (d == 80) ≡ d
delivery_is d h =
    let P : ℕ → Type 0 = λ x. letter_of_delivery (x == 80) ≡ x in
    elim (either_is 68 80 d h) [
      | inl e ↦ subst P e refl
      | inr e ↦ subst P e refl
    ]

pub silence_is : (d : ℕ) → is_in_range (Either (89 ∷ 78 ∷ [])) (byte d) ≡ true → letter_of_silence (d == 89) ≡ d
silence_is d h =
    let P : ℕ → Type 0 = λ x. letter_of_silence (x == 89) ≡ x in
    elim (either_is 89 78 d h) [
      | inl e ↦ subst P e refl
      | inr e ↦ subst P e refl
    ]
