-- Numbers and their bytes, both ways.
use Rattle.std.proofs.Common.{◌≡◌, ℕ, zero, suc, ◌+◌, ◌-◌, ◌*◌, ◌/◌, ◌%◌, ◌^◌, ◌<◌, ◌≤◌, List, [], ◌∷◌, ◌++◌, length, get_or, drop, take, replicate, refl, sym, ap, subst, ◌∙◌, inl, inr, zero-add, arith}
use Rattle.std.proofs.lemmas.List.{length-append, length-take, length-drop, get_or-drop, get_or-take, get_or_past}
use Rattle.std.proofs.lemmas.Bool.{cases_lt}
use Rattle.std.specs.Int.{w64, from_be_bytes, to_be_bytes}
use Rattle.wire_fields.specs.Numbers.{number_bytes, number_of}
use Rattle.std.proofs.lemmas.List.{length-replicate, take_all}
use Rattle.std.proofs.Math.Nat.{mul-le-mul_right, pow-suc, div-div-eq-div-mul, div-add-mod, add-mul-div_left, add-mul-mod_self_left, mul-add-div_right, div-lt_iff_lt-mul, div-one, mul_assoc}

-- each element is a byte
abbrev pub IsBytes : List ℕ → Type 0
IsBytes bs = (i : ℕ) → get_or bs i 0 < 256

pub IsBytes-tail : (b : ℕ) (bs : List ℕ) → IsBytes (b ∷ bs) → IsBytes bs
IsBytes-tail b bs fits i = fits (suc i)

pub IsBytes-drop : (n : ℕ) (bs : List ℕ) → IsBytes bs → IsBytes (drop n bs)
IsBytes-drop n bs fits i = rw get_or-drop (fits (n + i))

pub IsBytes-take : (n : ℕ) (bs : List ℕ) → IsBytes bs → IsBytes (take n bs)
IsBytes-take n bs fits i =
    elim (cases_lt i n) [
      | inl lt ↦ rw (get_or-take n bs i 0 lt) (fits i)
      | inr le ↦ rw (get_or_past (take n bs) i 0 (omega (arith, length-take n bs))) (omega arith)
    ]

-- bytes of zero in front count for nothing
pub number_of-zeros : (n : ℕ) (bs : List ℕ) → number_of (replicate n 0 ++ bs) ≡ number_of bs
number_of-zeros zero bs = refl
number_of-zeros (suc n) bs = omega (arith, number_of-zeros n bs)

-- eight bytes as std reads them
from_be_bytes-is : (bs : List ℕ) → length bs ≡ 8 → from_be_bytes w64 bs ≡ number_of bs
from_be_bytes-is (a ∷ b ∷ c ∷ d ∷ e ∷ f ∷ g ∷ h ∷ []) len = omega arith
from_be_bytes-is _ len = absurd (omega arith)

-- up to eight bytes, with bytes of zero in front
pub number_of-widened : (bs whole : List ℕ) → length bs ≤ 8 → whole ≡ replicate (8 - length bs) 0 ++ bs → from_be_bytes w64 whole ≡ number_of bs
number_of-widened bs whole le is =
    let len : length whole ≡ 8 = rw is (omega (arith, length-append (replicate (8 - length bs) 0) bs, length-replicate {A = ℕ} (8 - length bs) 0)) in
    from_be_bytes-is whole len ∙ ap number_of is ∙ number_of-zeros (8 - length bs) bs

-- as many bytes hold no greater number
pub number_of-bound : (bs : List ℕ) → IsBytes bs → number_of bs < 256 ^ length bs
number_of-bound [] fits = omega arith
number_of-bound (b ∷ bs) fits =
    let head : b ≤ 255 = omega (arith, fits 0) in
    let rest = number_of-bound bs (IsBytes-tail b bs fits) in
    let most : b * 256 ^ length bs ≤ 255 * 256 ^ length bs = mul-le-mul_right (256 ^ length bs) head in
    omega (arith, most, rest, pow-suc 256 (length bs))

-- the number of n bytes at an offset, as the code reads it
pub number_read : (bs whole : List ℕ) (at n read : ℕ) → at + n ≤ length bs → n ≤ 8 → IsBytes bs
    → whole ≡ replicate (8 - length (take (at + n - at) (drop at bs))) 0 ++ take (at + n - at) (drop at bs)
    → read ≡ from_be_bytes w64 whole → (read ≡ number_of (take n (drop at bs))) × (read < 256 ^ n)
number_read bs whole at n read within small fits whole_is read_is =
    let width : at + n - at ≡ n = omega arith in
    let part : length (take n (drop at bs)) ≡ n = omega (arith, length-take n (drop at bs), length-drop at bs) in
    let same : whole ≡ replicate (8 - length (take n (drop at bs))) 0 ++ take n (drop at bs) = rw (← width) whole_is in
    let is : read ≡ number_of (take n (drop at bs)) = read_is ∙ number_of-widened (take n (drop at bs)) whole (omega (arith, part)) same in
    let bound = number_of-bound (take n (drop at bs)) (IsBytes-take n (drop at bs) (IsBytes-drop at bs fits)) in
    (is, rw is (subst (λ (k : ℕ). number_of (take n (drop at bs)) < 256 ^ k) part bound))

pub length-number_bytes : (n number : ℕ) → length (number_bytes n number) ≡ n
length-number_bytes zero number = refl
length-number_bytes (suc n) number = ap suc (length-number_bytes n number)

-- a number is its last n bytes and what stands before them
number_of-number_bytes-with : (n number : ℕ) → number_of (number_bytes n number) + 256 ^ n * (number / 256 ^ n) ≡ number
number_of-number_bytes-with zero number = omega arith
number_of-number_bytes-with (suc n) number =
    let so_far = number_of-number_bytes-with n number in
    let quotient : number / 256 ^ suc n ≡ number / 256 ^ n / 256 = rw pow-suc (sym (div-div-eq-div-mul number (256 ^ n) 256)) in
    let parts : 256 ^ n * (256 * (number / 256 ^ n / 256) + number / 256 ^ n % 256) ≡ 256 ^ n * (number / 256 ^ n) = ap (λ (q : ℕ). 256 ^ n * q) (div-add-mod (number / 256 ^ n) 256) in
    let first : number_of (number_bytes (suc n) number) ≡ number / 256 ^ n % 256 * 256 ^ n + number_of (number_bytes n number) =
    ap (λ (k : ℕ). number / 256 ^ n % 256 * 256 ^ k + number_of (number_bytes n number)) (length-number_bytes n number) in
    rw (first, quotient, pow-suc) (omega (arith, so_far, parts))

pow_256_pos : (n : ℕ) → 0 < 256 ^ n
pow_256_pos zero = omega arith
pow_256_pos (suc n) = omega (arith, pow-suc 256 n, pow_256_pos n)

-- n bytes hold each number below 256 to the n
pub number_of-number_bytes : (n number : ℕ) → number < 256 ^ n → number_of (number_bytes n number) ≡ number
number_of-number_bytes n number lt =
    let none : number / 256 ^ n < 1 = (div-lt_iff_lt-mul (pow_256_pos n)).1 (omega arith) in
    let zero_part : number / 256 ^ n ≡ 0 = omega arith in
    let so_far = number_of-number_bytes-with n number in
    let nothing : 256 ^ n * (number / 256 ^ n) ≡ 0 = rw zero_part (omega arith) in
    omega arith

-- what stands before the last n bytes doesn't show in them
number_bytes-above : (n number above : ℕ) → number_bytes n (number + 256 ^ n * above) ≡ number_bytes n number
number_bytes-above zero number above = refl
number_bytes-above (suc n) number above =
    let shift : number + 256 ^ suc n * above ≡ number + 256 ^ n * (256 * above) = rw pow-suc (ap (λ (k : ℕ). number + k) (mul_assoc (256 ^ n) 256 above)) in
    let head : (number + 256 ^ n * (256 * above)) / 256 ^ n % 256 ≡ number / 256 ^ n % 256 = rw (add-mul-div_left number (256 * above) (pow_256_pos n)) (add-mul-mod_self_left (number / 256 ^ n) 256 above) in
    rw (shift, head, number_bytes-above n number (256 * above)) refl

-- the bytes of the number of some bytes are these
pub number_bytes-number_of : (bs : List ℕ) → IsBytes bs → number_bytes (length bs) (number_of bs) ≡ bs
number_bytes-number_of [] fits = refl
number_bytes-number_of (b ∷ bs) fits =
    let below = number_of-bound bs (IsBytes-tail b bs fits) in
    let none : number_of bs / 256 ^ length bs < 1 = (div-lt_iff_lt-mul (pow_256_pos (length bs))).1 (omega arith) in
    let head : (b * 256 ^ length bs + number_of bs) / 256 ^ length bs % 256 ≡ b = rw (mul-add-div_right (pow_256_pos (length bs)) b (number_of bs)) (omega (arith, fits 0, none)) in
    let order : b * 256 ^ length bs + number_of bs ≡ number_of bs + 256 ^ length bs * b = omega arith in
    let tail : number_bytes (length bs) (b * 256 ^ length bs + number_of bs) ≡ bs = rw (order, number_bytes-above (length bs) (number_of bs) b) (number_bytes-number_of bs (IsBytes-tail b bs fits)) in
    rw (head, tail) refl

-- the last bytes of more bytes
drop-number_bytes : (j m n number : ℕ) → m ≡ j + n → drop j (number_bytes m number) ≡ number_bytes n number
drop-number_bytes zero m n number e = ap (λ (k : ℕ). number_bytes k number) (e ∙ zero-add n)
drop-number_bytes (suc j) zero n number e = absurd (omega arith)
drop-number_bytes (suc j) (suc m) n number e = drop-number_bytes j m n number (omega arith)

-- the last bytes of the eight that std writes
pub number_bytes-written : (n number : ℕ) → n ≤ 8 → drop (8 - n) (to_be_bytes w64 number) ≡ number_bytes n number
number_bytes-written n number le =
    let all : to_be_bytes w64 number ≡ number_bytes 8 number = rw div-one refl in
    rw all (drop-number_bytes (8 - n) 8 n number (omega arith))

-- as many bytes as there is room for
pub number_bytes-cut : (room : ℕ) (written : List ℕ) (number : ℕ) → room ≤ 8 → written ≡ to_be_bytes w64 number → take (8 - (8 - room)) (drop (8 - room) written) ≡ number_bytes room number
number_bytes-cut room written number le is =
    let all : 8 - (8 - room) ≡ room = omega arith in
    let last : drop (8 - room) written ≡ number_bytes room number = rw is (number_bytes-written room number le) in
    rw (all, last) (take_all room (number_bytes room number) (omega (arith, length-number_bytes room number)))
