-- Keys of the same numbers are the same.
use Rattle.std.proofs.Common.{◌≡◌, ℕ, ◌+◌, ◌<◌, ◌≤◌, ◌++◌, List, length, get_or, take, drop, refl, sym, ap, ◌∙◌, inl, inr, arith, length-take, length-drop, take-append-drop, get_or-drop, get_or-take, drop-drop}
use Rattle.std.specs.Prelude.{bytes_eq}
use Rattle.std.specs.Int.{w64, from_le_bytes, to_le_bytes}
use Rattle.std.proofs.lemmas.Bool.{cases_lt}
use Rattle.std.proofs.lemmas.Bool.Decides.{Decides-and, Decides-eqb, same_from_decides}
use Rattle.std.proofs.lemmas.List.{drop_all, get_or_past}
use Rattle.std.proofs.lemmas.Nat.{le_bytes_8}
use Rattle.std.proofs.lemmas.Slice.Eq.{bytes_eq-Decides}
use Rattle.draw_streams.specs.Keys.{number_at, same_numbers}

abbrev AreBytes : List ℕ → Type 0
AreBytes bs = (i : ℕ) → get_or bs i 0 < 256

bytes-take : (n : ℕ) (bs : List ℕ) → AreBytes bs → AreBytes (take n bs)
bytes-take n bs fits i =
    elim (cases_lt i n) [
      | inl lt ↦ rw (get_or-take n bs i 0 lt) (fits i)
      | inr le ↦ rw (get_or_past (take n bs) i 0 (omega (arith, length-take n bs))) (omega arith)
    ]

bytes-drop : (n : ℕ) (bs : List ℕ) → AreBytes bs → AreBytes (drop n bs)
bytes-drop n bs fits i = rw get_or-drop (fits (n + i))

-- the number of some bytes is that of the first eight
front_number : (bs : List ℕ) → from_le_bytes w64 (take 8 bs) ≡ from_le_bytes w64 bs
front_number bs =
    let at : (i : ℕ) → i < 8 → get_or (take 8 bs) i 0 ≡ get_or bs i 0 = λ i lt. get_or-take 8 bs i 0 lt in
    omega (arith, at 0 (omega arith), at 1 (omega arith), at 2 (omega arith), at 3 (omega arith), at 4 (omega arith), at 5 (omega arith), at 6 (omega arith), at 7 (omega arith))

same_eight : (a b : List ℕ) → length a ≡ 8 → length b ≡ 8 → AreBytes a → AreBytes b → from_le_bytes w64 a ≡ from_le_bytes w64 b → a ≡ b
same_eight a b k l p q e =
    sym (le_bytes_8 a (from_le_bytes w64 a) k p refl) ∙ ap (to_le_bytes w64) e ∙ le_bytes_8 b (from_le_bytes w64 b) l q refl

-- eight bytes of the same number, and the same bytes after them
next_eight : (a b : List ℕ) → 8 ≤ length a → 8 ≤ length b → AreBytes a → AreBytes b → from_le_bytes w64 a ≡ from_le_bytes w64 b → drop 8 a ≡ drop 8 b → a ≡ b
next_eight a b k l p q e rest =
    let front : take 8 a ≡ take 8 b = same_eight (take 8 a) (take 8 b) (omega (arith, length-take 8 a)) (omega (arith, length-take 8 b)) (bytes-take 8 a p) (bytes-take 8 b q) (front_number a ∙ e ∙ sym (front_number b)) in
    sym (take-append-drop 8 a) ∙ (λ i. front i ++ rest i) ∙ take-append-drop 8 b

-- the bytes from a place on, where eight of them have the same number and those after them are the same
from_place : (a b : List ℕ) (at : ℕ) → length a ≡ 32 → length b ≡ 32 → at ≤ 24 → AreBytes a → AreBytes b → number_at a at ≡ number_at b at → drop (at + 8) a ≡ drop (at + 8) b → drop at a ≡ drop at b
from_place a b at k l within p q e rest =
    next_eight (drop at a) (drop at b) (omega (arith, length-drop at a)) (omega (arith, length-drop at b)) (bytes-drop at a p) (bytes-drop at b q) e (drop-drop 8 at a ∙ rest ∙ sym (drop-drop 8 at b))

same_keys : (a b : List ℕ) → length a ≡ 32 → length b ≡ 32 → AreBytes a → AreBytes b → number_at a 0 ≡ number_at b 0 → number_at a 8 ≡ number_at b 8 → number_at a 16 ≡ number_at b 16 → number_at a 24 ≡ number_at b 24 → a ≡ b
same_keys a b k l p q e f g h =
    let past : drop 32 a ≡ drop 32 b = drop_all 32 a (omega arith) ∙ sym (drop_all 32 b (omega arith)) in
    let fourth : drop 24 a ≡ drop 24 b = from_place a b 24 k l (omega arith) p q h past in
    let third : drop 16 a ≡ drop 16 b = from_place a b 16 k l (omega arith) p q g fourth in
    let second : drop 8 a ≡ drop 8 b = from_place a b 8 k l (omega arith) p q f third in
    from_place a b 0 k l (omega arith) p q e second

pub numbers_tell : (a b : List ℕ) → length a ≡ 32 → length b ≡ 32 → AreBytes a → AreBytes b → same_numbers a b ≡ bytes_eq a b
numbers_tell a b k l p q =
    let all = Decides-and _ _ (Decides-eqb (number_at a 0) (number_at b 0)) (Decides-and _ _ (Decides-eqb (number_at a 8) (number_at b 8)) (Decides-and _ _ (Decides-eqb (number_at a 16) (number_at b 16)) (Decides-eqb (number_at a 24) (number_at b 24)))) in
    let told = bytes_eq-Decides a b in
    same_from_decides (same_numbers a b) (bytes_eq a b)
    (λ t. let e = all.0 t in same_keys a b k l p q e.0 e.1.0 e.1.1.0 e.1.1.1, λ e. all.1 (ap (λ x. number_at x 0) e, (ap (λ x. number_at x 8) e, (ap (λ x. number_at x 16) e, ap (λ x. number_at x 24) e))))
    told
