-- A number in hexadecimal digits with zeros in front.
use Rattle.std.proofs.Common.{ℕ, zero, suc, ◌-◌, ◌/◌, ◌%◌, ◌==◌, true, false, cond, List, [], ◌∷◌, ◌++◌, ◌≡◌, ◌∙◌, ◌^◌, length, replicate, refl, sym, ap, arith, add-one, append_assoc, append-nil}
use Rattle.std.specs.Fmt.{digit_glyph, digits_onto, digits, padded_integral, format_spec, char_count}
use Rattle.std.proofs.lemmas.Bool.Decides.{nat_tests}
use Rattle.std.proofs.lemmas.List.{replicate_more, length_push}
use Rattle.study_file.specs.LargeStudy.{hex_digit, hex_digits, key_of}

-- the digits as they are written
abbrev written : ℕ → ℕ → List ℕ
written k n = digits_onto k 16 false n []

glyph : (d : ℕ) → hex_digit d ≡ digit_glyph false d
glyph d = grind (arith, nat_tests)

-- the last digit comes behind the others
written-more : (k n : ℕ) (acc : List ℕ) → digits_onto k 16 false n acc ≡ written k n ++ acc
written-more zero n acc = refl
written-more (suc k) n acc =
    let last = digit_glyph false (n % 16) in
    let more : digits_onto k 16 false (n / 16) (last ∷ acc) ≡ digits_onto k 16 false (n / 16) (last ∷ []) ++ acc =
    written-more k (n / 16) (last ∷ acc)
    ∙ sym (append_assoc (written k (n / 16)) (last ∷ []) acc)
    ∙ ap (λ (xs : List ℕ). xs ++ acc) (sym (written-more k (n / 16) (last ∷ []))) in
    elim (n / 16 == 0) as (λ b. (cond b (last ∷ acc) (digits_onto k 16 false (n / 16) (last ∷ acc)))
    ≡ (cond b (last ∷ []) (digits_onto k 16 false (n / 16) (last ∷ []))) ++ acc) [
      | true ↦ refl
      | false ↦ more
    ]

-- zeros up to so many digits, and then the digits
abbrev filled : ℕ → List ℕ → List ℕ
filled m xs = replicate (m - length xs) 48 ++ xs

zeros : (m : ℕ) → hex_digits m 0 ≡ replicate m 48
zeros zero = refl
zeros (suc m) = ap (λ (xs : List ℕ). xs ++ 48 ∷ []) (zeros m) ∙ replicate_more m 48 ∙ ap (λ (k : ℕ). replicate k 48) (add-one m)

-- one digit more
filled-more : (m d : ℕ) (xs : List ℕ) → filled (suc m) (xs ++ d ∷ []) ≡ filled m xs ++ d ∷ []
filled-more m d xs =
    let short : suc m - length (xs ++ d ∷ []) ≡ m - length xs = omega (arith, length_push xs d) in
    ap (λ (k : ℕ). replicate k 48 ++ (xs ++ d ∷ [])) short ∙ sym (append_assoc (replicate (m - length xs) 48) xs (d ∷ []))

-- a number below sixteen has one digit behind zeros
filled-one : (m d : ℕ) → filled (suc m) (d ∷ []) ≡ hex_digits m 0 ++ d ∷ []
filled-one m d =
    let short : suc m - length (d ∷ []) ≡ m = omega arith in
    ap (λ (k : ℕ). replicate k 48 ++ d ∷ []) short ∙ ap (λ (xs : List ℕ). xs ++ d ∷ []) (sym (zeros m))

-- what is written of a number, filled up with zeros, are its digits
filled-written : (m n : ℕ) → filled m (written m n) ≡ hex_digits m n
filled-written zero n = refl
filled-written (suc m) n =
    let last = digit_glyph false (n % 16) in
    let own : hex_digits m (n / 16) ++ last ∷ [] ≡ hex_digits m (n / 16) ++ hex_digit (n % 16) ∷ [] =
    ap (λ (d : ℕ). hex_digits m (n / 16) ++ d ∷ []) (sym (glyph (n % 16))) in
    let more : filled (suc m) (digits_onto m 16 false (n / 16) (last ∷ [])) ≡ hex_digits m (n / 16) ++ last ∷ [] =
    ap (λ (xs : List ℕ). filled (suc m) xs) (written-more m (n / 16) (last ∷ []))
    ∙ filled-more m last (written m (n / 16))
    ∙ ap (λ (xs : List ℕ). xs ++ last ∷ []) (filled-written m (n / 16)) in
    let one : n / 16 ≡ 0 → filled (suc m) (last ∷ []) ≡ hex_digits m (n / 16) ++ last ∷ [] =
    λ none. filled-one m last ∙ ap (λ (k : ℕ). hex_digits m k ++ last ∷ []) (sym none) in
    let small : (n / 16 == 0) ≡ true → n / 16 ≡ 0 = λ h. grind (arith, nat_tests) in
    elim (n / 16 == 0) as (λ b. (n / 16 == 0) ≡ b → filled (suc m) (cond b (last ∷ []) (digits_onto m 16 false (n / 16) (last ∷ []))) ≡ hex_digits m (n / 16) ++ hex_digit (n % 16) ∷ []) [
      | true ↦ λ h. one (small h) ∙ own
      | false ↦ λ h. more ∙ own
    ] refl

-- what `{:064x}` writes
pub key-written : (n : ℕ) → padded_integral (format_spec 32 0 4 64 (2 ^ 64 - 1)) false [] (digits 16 false n) ≡ key_of n
unfolding padded_integral digits char_count key_of
key-written n =
    let own = written 64 n in
    let short : 64 - length own - 0 - 0 ≡ 64 - length own = omega arith in
    ap (λ (k : ℕ). replicate k 48 ++ (own ++ [])) short
    ∙ ap (λ (xs : List ℕ). replicate (64 - length own) 48 ++ xs) (append-nil own)
    ∙ filled-written 64 n
