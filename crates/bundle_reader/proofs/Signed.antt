-- Numbers in two's complement, and lists of them.
use Rattle.std.proofs.Common.{◌≡◌, ◌∙◌, ℕ, ◌+◌, ◌*◌, ◌/◌, ◌%◌, ◌^◌, ◌<◌, ◌≤◌, List, [], ◌∷◌, ◌++◌, length, take, drop, refl, sym, ap, subst, arith}
use Rattle.std.specs.Prelude.{ℤ, All}
use Rattle.std.specs.Int.{cast_unsigned, cast_signed, w64, w128}
use Rattle.std.specs.Int.RustNames.{FitsSigned}
use Rattle.std.proofs.Math.Facts.{Fits-lt-pow, Fits-of_z, sfits_to_z}
use Rattle.std.proofs.Math.Seq.{take-add}
use Rattle.std.proofs.lemmas.Grind.{flat_map-append}
use Rattle.std.proofs.lemmas.List.Elements.{All-head, All-tail}
use Rattle.std.proofs.lemmas.Int.{of_z-to_z, to_z-of_z}
use Rattle.std.proofs.lemmas.List.{append-nil, length-append, length-drop, length-take-le, take_at, drop_at}
use Rattle.wire_fields.specs.Numbers.{number_of, number_bytes}
use Rattle.wire_fields.proofs.Digits.{IsBytes, IsBytes-drop, IsBytes-take, number_of-bound, number_of-number_bytes, number_bytes-number_of}
use Rattle.bundle_frames.specs.Wires.{position_bytes, positions_bytes}

-- two numbers of the same halves
halves : (a b : ℕ) → a / 2 ^ 64 ≡ b / 2 ^ 64 → a % 2 ^ 64 ≡ b % 2 ^ 64 → a ≡ b
halves a b high low = omega arith

-- sixteen bytes in two's complement are one number
pub one_of_halves : (a b : ℤ) → FitsSigned w128 a → FitsSigned w128 b → cast_unsigned w128 a / 2 ^ 64 ≡ cast_unsigned w128 b / 2 ^ 64
    → cast_unsigned w128 a % 2 ^ 64 ≡ cast_unsigned w128 b % 2 ^ 64 → a ≡ b
one_of_halves a b fits_a fits_b high low =
    sym (to_z-of_z w128 a fits_a) ∙ ap (cast_signed w128) (halves (cast_unsigned w128 a) (cast_unsigned w128 b) high low) ∙ to_z-of_z w128 b fits_b

-- the number of both halves
pub joined_high : (high low : ℕ) → high < 2 ^ 64 → low < 2 ^ 64 → (high * 2 ^ 64 + low) / 2 ^ 64 ≡ high
joined_high high low h l = omega arith

pub joined_low : (high low : ℕ) → high < 2 ^ 64 → low < 2 ^ 64 → (high * 2 ^ 64 + low) % 2 ^ 64 ≡ low
joined_low high low h l = omega arith

-- ---- positions

length-position : (p : ℤ) → length (position_bytes p) ≡ 8
unfolding position_bytes
length-position p = refl

position_of : (p : ℤ) → number_of (position_bytes p) ≡ number_of (number_bytes 8 (cast_unsigned w64 p))
unfolding position_bytes
position_of p = refl

same_position : (p q : ℤ) → FitsSigned w64 p → FitsSigned w64 q → position_bytes p ≡ position_bytes q → p ≡ q
same_position p q fits_p fits_q e =
    let lt_p : cast_unsigned w64 p < 256 ^ 8 = Fits-lt-pow (Fits-of_z fits_p) in
    let lt_q : cast_unsigned w64 q < 256 ^ 8 = Fits-lt-pow (Fits-of_z fits_q) in
    let bits : cast_unsigned w64 p ≡ cast_unsigned w64 q =
    sym (number_of-number_bytes 8 (cast_unsigned w64 p) lt_p) ∙ sym (position_of p) ∙ ap number_of e ∙ position_of q
    ∙ number_of-number_bytes 8 (cast_unsigned w64 q) lt_q in
    sym (to_z-of_z w64 p fits_p) ∙ ap (cast_signed w64) bits ∙ to_z-of_z w64 q fits_q

pub same_positions : (ps qs : List ℤ) → All (FitsSigned w64) ps → All (FitsSigned w64) qs → positions_bytes ps ≡ positions_bytes qs → ps ≡ qs
same_positions [] [] fits_p fits_q e = refl
same_positions [] (q ∷ qs) fits_p fits_q e = absurd (omega (arith, ap length e, length-append (position_bytes q) (positions_bytes qs), length-position q))
same_positions (p ∷ ps) [] fits_p fits_q e = absurd (omega (arith, ap length e, length-append (position_bytes p) (positions_bytes ps), length-position p))
same_positions (p ∷ ps) (q ∷ qs) fits_p fits_q e =
    let first : position_bytes p ≡ position_bytes q =
    sym (take_at (position_bytes p) (positions_bytes ps) 8 (length-position p)) ∙ ap (take 8) e ∙ take_at (position_bytes q) (positions_bytes qs) 8 (length-position q) in
    let rest : positions_bytes ps ≡ positions_bytes qs =
    sym (drop_at (position_bytes p) (positions_bytes ps) 8 (length-position p)) ∙ ap (drop 8) e ∙ drop_at (position_bytes q) (positions_bytes qs) 8 (length-position q) in
    let one = same_position p q (All-head (FitsSigned w64) p ps fits_p) (All-head (FitsSigned w64) q qs fits_q) first in
    let others = same_positions ps qs (All-tail (FitsSigned w64) p ps fits_p) (All-tail (FitsSigned w64) q qs fits_q) rest in
    ap (λ z. z ∷ ps) one ∙ ap (λ zs. q ∷ zs) others

pub length-positions : (ps : List ℤ) → length (positions_bytes ps) ≡ 8 * length ps
length-positions [] = refl
length-positions (p ∷ ps) = omega (arith, length-append (position_bytes p) (positions_bytes ps), length-position p, length-positions ps)

-- a number that was read is written as it stands
position_read : (n : ℕ) (part : List ℕ) → IsBytes part → length part ≡ 8 → n ≡ number_of part → position_bytes (cast_signed w64 n) ≡ part
unfolding position_bytes
position_read n part fits len is =
    let lt : n < 2 ^ 64 = subst (λ (m : ℕ). m < 2 ^ 64) (sym is) (subst (λ (m : ℕ). number_of part < 256 ^ m) len (number_of-bound part fits)) in
    let written : number_bytes 8 n ≡ part = ap (number_bytes 8) is ∙ ap (λ (m : ℕ). number_bytes m (number_of part)) (sym len) ∙ number_bytes-number_of part fits in
    append-nil (number_bytes 8 (cast_unsigned w64 (cast_signed w64 n))) ∙ ap (number_bytes 8) (of_z-to_z w64 n lt) ∙ written

-- one position more
pub one_position_more : (bytes : List ℕ) (items : List ℤ) (k n : ℕ) → IsBytes bytes → 8 * (k + 1) ≤ length bytes → n ≡ number_of (take 8 (drop (8 * k) bytes))
    → positions_bytes items ≡ take (8 * k) bytes → positions_bytes (items ++ cast_signed w64 n ∷ []) ≡ take (8 * (k + 1)) bytes
one_position_more bytes items k n fits within is so_far =
    let part = take 8 (drop (8 * k) bytes) in
    let len : length part ≡ 8 = length-take-le 8 (drop (8 * k) bytes) (omega (arith, length-drop (8 * k) bytes)) in
    let read = position_read n part (IsBytes-take 8 (drop (8 * k) bytes) (IsBytes-drop (8 * k) bytes fits)) len is in
    let more : 8 * k + 8 ≡ 8 * (k + 1) = omega arith in
    flat_map-append position_bytes items (cast_signed w64 n ∷ [])
    ∙ ap (λ (l : List ℕ). positions_bytes items ++ l) (append-nil (position_bytes (cast_signed w64 n)) ∙ read)
    ∙ ap (λ (l : List ℕ). l ++ part) so_far
    ∙ sym (take-add (8 * k) 8 bytes)
    ∙ ap (λ (m : ℕ). take m bytes) more

-- a position that was read fits
pub one_position_fits : (bytes : List ℕ) (k n : ℕ) → IsBytes bytes → 8 * (k + 1) ≤ length bytes → n ≡ number_of (take 8 (drop (8 * k) bytes)) → FitsSigned w64 (cast_signed w64 n)
one_position_fits bytes k n fits within is =
    let part = take 8 (drop (8 * k) bytes) in
    let len : length part ≡ 8 = length-take-le 8 (drop (8 * k) bytes) (omega (arith, length-drop (8 * k) bytes)) in
    let bound = number_of-bound part (IsBytes-take 8 (drop (8 * k) bytes) (IsBytes-drop (8 * k) bytes fits)) in
    let lt : n < 2 ^ 64 = subst (λ (m : ℕ). m < 2 ^ 64) (sym is) (subst (λ (m : ℕ). number_of part < 256 ^ m) len bound) in
    sfits_to_z (record { fits = lt })
