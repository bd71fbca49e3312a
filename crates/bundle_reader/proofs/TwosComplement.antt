-- Numbers in two's complement, read of their bytes.
use Rattle.std.proofs.Common.{◌≡◌, ◌∙◌, ℕ, zero, suc, ◌+◌, ◌*◌, ◌/◌, ◌%◌, ◌^◌, ◌<◌, List, [], ◌∷◌, length, take, drop, Option, Some, None, refl, sym, ap, arith}
use Rattle.std.specs.Prelude.{ℤ, All}
use Rattle.std.specs.Int.{cast_unsigned, cast_signed, w64, w128}
use Rattle.std.specs.Int.RustNames.{FitsSigned}
use Rattle.std.proofs.Math.Facts.{Fits-lt-pow, Fits-of_z, sfits_to_z}
use Rattle.std.proofs.lemmas.List.{append-nil, take_at, drop_at}
use Rattle.std.proofs.lemmas.List.Elements.{All-head, All-tail, All-nil, All-cons}
use Rattle.std.proofs.lemmas.Int.{of_z-to_z, to_z-of_z}
use Rattle.wire_fields.specs.Numbers.{number_of, number_bytes}
use Rattle.wire_fields.proofs.Digits.{number_of-number_bytes}
use Rattle.bundle_frames.specs.Wires.{position_bytes, positions_bytes}
use Rattle.bundle_reader.specs.Frames.{HasPositions}
use Rattle.bundle_reader.specs.Parts.{count_of}
use Rattle.bundle_reader.proofs.Signed.{joined_high, joined_low, length-positions}
use Rattle.bundle_reader.proofs.FrameKinds.{HasHalves, ArePositions}
use Rattle.bundle_reader.specs.FramesRead.{joined, positions_in}

-- the number of both halves has them
pub halves_are : (high low : ℕ) → high < 2 ^ 64 → low < 2 ^ 64 → HasHalves high low (joined high low)
halves_are high low h l =
    let n = high * 2 ^ 64 + low in
    let lt : n < 2 ^ 128 = omega arith in
    let back : cast_unsigned w128 (cast_signed w128 n) ≡ n = of_z-to_z w128 n lt in
    record {
      high_is = ap (λ (m : ℕ). m / 2 ^ 64) back ∙ joined_high high low h l;
      low_is = ap (λ (m : ℕ). m % 2 ^ 64) back ∙ joined_low high low h l;
      fits = sfits_to_z (record { fits = lt });
    }

-- ---- positions

fits_in : (n : ℕ) → FitsSigned w64 (cast_signed w64 (n % 2 ^ 64))
fits_in n = let lt : n % 2 ^ 64 < 2 ^ 64 = omega arith in sfits_to_z (record { fits = lt })

pub positions_fit : (n : ℕ) (bytes : List ℕ) → All (FitsSigned w64) (positions_in n bytes)
positions_fit zero bytes = All-nil (FitsSigned w64)
positions_fit (suc n) bytes =
    All-cons (FitsSigned w64) (cast_signed w64 (number_of (take 8 bytes) % 2 ^ 64)) (positions_in n (drop 8 bytes)) (fits_in (number_of (take 8 bytes))) (positions_fit n (drop 8 bytes))

length-positions_in : (n : ℕ) (bytes : List ℕ) → length (positions_in n bytes) ≡ n
length-positions_in zero bytes = refl
length-positions_in (suc n) bytes = ap suc (length-positions_in n (drop 8 bytes))

counted : (stocks : Option ℕ) (n : ℕ) (ps : List ℤ) → length ps ≡ count_of stocks n → HasPositions stocks ps
counted None n ps len = tt
counted (Some s) n ps len = len

-- positions whose bytes are all of these are theirs
pub positions_are : (stocks : Option ℕ) (bytes : List ℕ) → positions_bytes (positions_in (count_of stocks (length bytes)) bytes) ≡ bytes
    → ArePositions stocks bytes (positions_in (count_of stocks (length bytes)) bytes)
positions_are stocks bytes same = record {
  bytes_are = same;
  fit = positions_fit (count_of stocks (length bytes)) bytes;
  count = counted stocks (length bytes) (positions_in (count_of stocks (length bytes)) bytes) (length-positions_in (count_of stocks (length bytes)) bytes);
}

bytes_of : (p : ℤ) → position_bytes p ≡ number_bytes 8 (cast_unsigned w64 p)
unfolding position_bytes
bytes_of p = append-nil (number_bytes 8 (cast_unsigned w64 p))

length-bytes : (p : ℤ) → length (position_bytes p) ≡ 8
unfolding position_bytes
length-bytes p = refl

position_again : (p : ℤ) → FitsSigned w64 p → cast_signed w64 (number_of (position_bytes p) % 2 ^ 64) ≡ p
position_again p fits =
    let bits = cast_unsigned w64 p in
    let lt : cast_unsigned w64 p < 256 ^ 8 = Fits-lt-pow (Fits-of_z fits) in
    let number : number_of (position_bytes p) ≡ cast_unsigned w64 p = ap number_of (bytes_of p) ∙ number_of-number_bytes 8 (cast_unsigned w64 p) lt in
    let small : number_of (position_bytes p) % 2 ^ 64 ≡ cast_unsigned w64 p = omega (arith, number, lt) in
    ap (cast_signed w64) small ∙ to_z-of_z w64 p fits

-- positions come back from their bytes
positions_again : (ps : List ℤ) → All (FitsSigned w64) ps → positions_in (length ps) (positions_bytes ps) ≡ ps
positions_again [] fits = refl
positions_again (p ∷ ps) fits =
    let first : take 8 (positions_bytes (p ∷ ps)) ≡ position_bytes p = take_at (position_bytes p) (positions_bytes ps) 8 (length-bytes p) in
    let rest : drop 8 (positions_bytes (p ∷ ps)) ≡ positions_bytes ps = drop_at (position_bytes p) (positions_bytes ps) 8 (length-bytes p) in
    ap (λ (l : List ℕ). cast_signed w64 (number_of l % 2 ^ 64) ∷ positions_in (length ps) (drop 8 (positions_bytes (p ∷ ps)))) first
    ∙ ap (λ (z : ℤ). z ∷ positions_in (length ps) (drop 8 (positions_bytes (p ∷ ps)))) (position_again p (All-head (FitsSigned w64) p ps fits))
    ∙ ap (λ (l : List ℕ). p ∷ positions_in (length ps) l) rest
    ∙ ap (λ (l : List ℤ). p ∷ l) (positions_again ps (All-tail (FitsSigned w64) p ps fits))

count_is : (stocks : Option ℕ) (n : ℕ) (ps : List ℤ) → n ≡ 8 * length ps → HasPositions stocks ps → count_of stocks n ≡ length ps
count_is None n ps len has = omega arith
count_is (Some s) n ps len has = sym has

-- the positions that bytes are of are read of them
pub positions_found : (stocks : Option ℕ) (bytes : List ℕ) (ps : List ℤ) → ArePositions stocks bytes ps → positions_in (count_of stocks (length bytes)) bytes ≡ ps
positions_found stocks bytes ps are =
    let len : length bytes ≡ 8 * length ps = ap length (sym are.bytes_are) ∙ length-positions ps in
    ap (λ (n : ℕ). positions_in n bytes) (count_is stocks (length bytes) ps len are.count)
    ∙ ap (positions_in (length ps)) (sym are.bytes_are)
    ∙ positions_again ps are.fit
