-- Signed numbers as two's complement holds them.
use Rattle.std.proofs.Common.{◌≡◌, ◌∙◌, ℕ, ◌/◌, ◌%◌, ◌^◌, ◌<◌, List, [], ◌∷◌, ◌++◌, map, refl, sym, ap, arith}
use Rattle.std.specs.Prelude.{ℤ, All}
use Rattle.std.specs.Int.{cast_signed, cast_unsigned, w64, w128}
use Rattle.std.specs.Int.RustNames.{FitsSigned}
use Rattle.std.proofs.Math.Facts.{sfits_to_z}
use Rattle.std.proofs.Math.Nat.{mod-eq_of_lt}
use Rattle.std.proofs.Math.Pow.{mod-mod-pow}
use Rattle.std.proofs.lemmas.Nat.{div-mul-add, mod-pow-add}
use Rattle.std.proofs.lemmas.Int.{of_z-to_z}
use Rattle.std.proofs.lemmas.List.Elements.{All-cons, All-nil}
use Rattle.wire_fields.specs.Numbers.{number_bytes}
use Rattle.bundle_frames.specs.Wires.{position_bytes, positions_bytes}
use Rattle.audit_desk.specs.Clipped.{clipped_signed, clipped_wide}
use Rattle.audit_desk.proofs.HeldFields.{number-held}

below : (n : ℕ) → n % 2 ^ 64 < 2 ^ 64
below n = omega arith

below-wide : (n : ℕ) → n % 2 ^ 128 < 2 ^ 128
below-wide n = omega arith

-- ---- eight bytes

pub signed-back : (z : ℤ) → cast_unsigned w64 (clipped_signed z) ≡ cast_unsigned w64 z % 2 ^ 64
signed-back z = of_z-to_z w64 (cast_unsigned w64 z % 2 ^ 64) (below (cast_unsigned w64 z))

signed-in : (n : ℕ) → FitsSigned w64 (cast_signed w64 (n % 2 ^ 64))
signed-in n = sfits_to_z (record { fits = below n })

pub signed-fits : (z : ℤ) → FitsSigned w64 (clipped_signed z)
signed-fits z = signed-in (cast_unsigned w64 z)

-- ---- sixteen bytes

wide-back : (z : ℤ) → cast_unsigned w128 (clipped_wide z) ≡ cast_unsigned w128 z % 2 ^ 128
wide-back z = of_z-to_z w128 (cast_unsigned w128 z % 2 ^ 128) (below-wide (cast_unsigned w128 z))

wide-in : (n : ℕ) → FitsSigned w128 (cast_signed w128 (n % 2 ^ 128))
wide-in n = sfits_to_z (record { fits = below-wide n })

pub wide-fits : (z : ℤ) → FitsSigned w128 (clipped_wide z)
wide-fits z = wide-in (cast_unsigned w128 z)

upper : (n : ℕ) → n % 2 ^ 128 / 2 ^ 64 ≡ n / 2 ^ 64 % 2 ^ 64
upper n = ap (λ (m : ℕ). m / 2 ^ 64) (mod-pow-add n 64 64) ∙ div-mul-add (n / 2 ^ 64 % 2 ^ 64) (2 ^ 64) (n % 2 ^ 64) (below n)

pub high-back : (z : ℤ) → cast_unsigned w128 (clipped_wide z) / 2 ^ 64 ≡ cast_unsigned w128 z / 2 ^ 64 % 2 ^ 64
high-back z = ap (λ (n : ℕ). n / 2 ^ 64) (wide-back z) ∙ upper (cast_unsigned w128 z)

lower : (n : ℕ) → n % 2 ^ 128 % 2 ^ 64 ≡ n % 2 ^ 64 % 2 ^ 64
lower n = mod-mod-pow n 64 64 ∙ sym (mod-eq_of_lt (below n))

pub low-back : (z : ℤ) → cast_unsigned w128 (clipped_wide z) % 2 ^ 64 ≡ cast_unsigned w128 z % 2 ^ 64 % 2 ^ 64
low-back z = ap (λ (n : ℕ). n % 2 ^ 64) (wide-back z) ∙ lower (cast_unsigned w128 z)

-- ---- positions

position-same : (p : ℤ) → position_bytes (clipped_signed p) ≡ position_bytes p
unfolding position_bytes
position-same p =
    ap (λ (n : ℕ). number_bytes 8 n ++ []) (signed-back p) ∙ ap (λ (l : List ℕ). l ++ []) (number-held 8 (cast_unsigned w64 p))

pub positions-same : (ps : List ℤ) → positions_bytes (map clipped_signed ps) ≡ positions_bytes ps
positions-same [] = refl
positions-same (p ∷ ps) =
    ap (λ (l : List ℕ). l ++ positions_bytes (map clipped_signed ps)) (position-same p)
    ∙ ap (λ (l : List ℕ). position_bytes p ++ l) (positions-same ps)

pub positions-fit : (ps : List ℤ) → All (FitsSigned w64) (map clipped_signed ps)
positions-fit [] = All-nil (FitsSigned w64)
positions-fit (p ∷ ps) = All-cons (FitsSigned w64) (clipped_signed p) (map clipped_signed ps) (signed-fits p) (positions-fit ps)
