-- Bytes of hexadecimal digits.
use Rattle.std.proofs.Common.{◌≡◌, ◌∙◌, ◌<◌, ◌+◌, ◌*◌, ℕ, zero, suc, List, [], ◌∷◌, length, get_or, slice_set, refl, sym, subst, inl, inr, arith}
use Rattle.std.proofs.lemmas.Bool.{cases_lt}
use Rattle.std.proofs.lemmas.List.{ext_get_or, length-set, get_or-set_same, get_or-set_other}
use Rattle.study_market.specs.Market.{hex_value, hex_bytes}

pub length-bytes : (text : List ℕ) (n : ℕ) → length text ≡ 2 * n → length (hex_bytes text) ≡ n
length-bytes [] n h = omega (arith, h)
length-bytes (a ∷ []) n h = absurd (omega (arith, h))
length-bytes (a ∷ (b ∷ rest)) zero h = absurd (omega (arith, h))
length-bytes (a ∷ (b ∷ rest)) (suc n) h = omega (arith, length-bytes rest n (omega (arith, h)))

pub byte-of : (text : List ℕ) (k : ℕ) → 2 * k + 1 < length text
    → get_or (hex_bytes text) k 0 ≡ hex_value (get_or text (2 * k) 0) * 16 + hex_value (get_or text (2 * k + 1) 0)
byte-of [] k h = absurd (omega (arith, h))
byte-of (a ∷ []) k h = absurd (omega (arith, h))
byte-of (a ∷ (b ∷ rest)) zero h = refl
byte-of (a ∷ (b ∷ rest)) (suc k) h =
    let e : 2 * suc k ≡ suc (suc (2 * k)) = omega arith in
    let f : 2 * suc k + 1 ≡ suc (suc (2 * k + 1)) = omega arith in
    rw (f, e) (byte-of rest k (omega (arith, h)))

-- bytes that are those of the digits, one by one
pub all-bytes : (text key : List ℕ) → length text ≡ 64 → length key ≡ 32
    → ((k : ℕ) → k < 32 → get_or key k 0 ≡ hex_value (get_or text (2 * k) 0) * 16 + hex_value (get_or text (2 * k + 1) 0)) → key ≡ hex_bytes text
all-bytes text key long short h =
    ext_get_or 0 key (hex_bytes text) (omega (arith, short, length-bytes text 32 (omega (arith, long))))
    (λ k within. h k (omega (arith, within, short)) ∙ sym (byte-of text k (omega (arith, within, short, long))))

-- the bytes before a place, and the one there
pub one-byte-more : (byte : ℕ → ℕ) (key : List ℕ) (i x : ℕ) → length key ≡ 32 → i < 32 → ((k : ℕ) → k < i → get_or key k 0 ≡ byte k) → x ≡ byte i
    → (length (slice_set key i x) ≡ 32) × ((k : ℕ) → k < i + 1 → get_or (slice_set key i x) k 0 ≡ byte k)
one-byte-more byte key i x long less before here = (
  length-set key i x ∙ long,
  λ k within. elim (cases_lt k i) [
    | inl early ↦ get_or-set_other key i k x 0 (λ same. absurd (omega (arith, early, same))) ∙ before k early
    | inr late ↦
        let same : k ≡ i = omega (arith, late, within) in
        subst (λ (j : ℕ). get_or (slice_set key i x) j 0 ≡ byte j) (sym same) (get_or-set_same key i x 0 (omega (arith, less, long)) ∙ here)
  ],
)
