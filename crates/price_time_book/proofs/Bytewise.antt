-- Bytes compared in their order as numbers of eight, the first byte the highest.
use Rattle.std.proofs.Common.{◌≡◌, ℕ, zero, suc, ◌+◌, ◌*◌, ◌<◌, ◌≤◌, eqb, ◌&&◌, List, [], ◌∷◌, length, get_or, take, drop, refl, sym, ap, ◌∙◌, inl, inr, arith}
use Rattle.std.proofs.lemmas.Bool.{cases_lt}
use Rattle.std.specs.Prelude.{bytes_eq}
use Rattle.std.proofs.lemmas.Bool.Decides.{nat_tests}
use Rattle.std.proofs.lemmas.Map.Text.{is_eq-slice_cmp}
use Rattle.std.proofs.lemmas.Cmp.{ranked, by_ranked}
use Rattle.std.proofs.lemmas.List.{length-take, length-drop, get_or-drop, get_or-take, get_or_past}
use Rattle.std.specs.Cmp.{nat_cmp_is}
use Rattle.std.specs.Int.{w64, from_be_bytes}
use Rattle.std.specs.Ordering.{is_eq, nat_cmp, ordering_then}
use Rattle.std.specs.Cmp.Lexicographic.{slice_cmp}
use Rattle.std.specs.declared.cmp.Ordering.{Ordering}
use Rattle.std.specs.declared.cmp.Ordering.TheVariants.{Less, Equal, Greater}

-- the number that goes on from another with these bytes
abbrev onward : ℕ → List ℕ → ℕ
onward n [] = n
onward n (b ∷ bs) = onward (n * 256 + b) bs

then_Equal : (a : Ordering) → ordering_then a Equal ≡ a
then_Equal Less = refl
then_Equal Equal = refl
then_Equal Greater = refl

then-then : (a b c : Ordering) → ordering_then (ordering_then a b) c ≡ ordering_then a (ordering_then b c)
then-then Less b c = refl
then-then Equal b c = refl
then-then Greater b c = refl

again : (a b c : Ordering) → ordering_then b c ≡ c → ordering_then (ordering_then a b) (ordering_then a c) ≡ ordering_then a c
again Less b c e = refl
again Equal b c e = e
again Greater b c e = refl

above : (a b x y : ℕ) (r : Ordering) → r ≡ nat_cmp x y → x < 256 → y < 256 → (o : Ordering) → o ≡ nat_cmp a b → ordering_then o r ≡ nat_cmp (a * 256 + x) (b * 256 + y)
above a b x y r e p q o is = by_ranked (a < b) (a ≡ b) (b < a) o (ranked a b o is)
    (λ t l. ap (λ k. ordering_then k r) t ∙ nat_cmp_is (a * 256 + x) (b * 256 + y) Less (omega arith))
    (λ t l. ap (λ k. ordering_then k r) t ∙ by_ranked (x < y) (x ≡ y) (y < x) r (ranked x y r e)
    (λ u m. u ∙ nat_cmp_is (a * 256 + x) (b * 256 + y) Less (omega arith))
    (λ u m. u ∙ nat_cmp_is (a * 256 + x) (b * 256 + y) Equal (omega arith))
    (λ u m. u ∙ nat_cmp_is (a * 256 + x) (b * 256 + y) Greater (omega arith)))
    (λ t l. ap (λ k. ordering_then k r) t ∙ nat_cmp_is (a * 256 + x) (b * 256 + y) Greater (omega arith))

-- as many bytes on each side: their order is that of the numbers
onward_cmp : (a b : ℕ) (xs ys : List ℕ) → length xs ≡ length ys → ((i : ℕ) → get_or xs i 0 < 256) → ((i : ℕ) → get_or ys i 0 < 256)
    → ordering_then (nat_cmp a b) (slice_cmp nat_cmp xs ys) ≡ nat_cmp (onward a xs) (onward b ys)
onward_cmp a b [] [] e p q = then_Equal (nat_cmp a b)
onward_cmp a b [] (y ∷ ys) e p q = absurd (omega arith)
onward_cmp a b (x ∷ xs) [] e p q = absurd (omega arith)
onward_cmp a b (x ∷ xs) (y ∷ ys) e p q =
    sym (then-then (nat_cmp a b) (nat_cmp x y) (slice_cmp nat_cmp xs ys))
    ∙ ap (λ o. ordering_then o (slice_cmp nat_cmp xs ys)) (above a b x y (nat_cmp x y) refl (p 0) (q 0) (nat_cmp a b) refl)
    ∙ onward_cmp (a * 256 + x) (b * 256 + y) xs ys (omega arith) (λ i. p (suc i)) (λ i. q (suc i))

onward_eight : (bs : List ℕ) → length bs ≡ 8 → from_be_bytes w64 bs ≡ onward 0 bs
onward_eight (a ∷ b ∷ c ∷ d ∷ e ∷ f ∷ g ∷ h ∷ []) len = omega arith
onward_eight _ len = absurd (omega arith)

-- eight bytes
pub eight_cmp : (xs ys : List ℕ) → length xs ≡ 8 → length ys ≡ 8 → ((i : ℕ) → get_or xs i 0 < 256) → ((i : ℕ) → get_or ys i 0 < 256)
    → nat_cmp (from_be_bytes w64 xs) (from_be_bytes w64 ys) ≡ slice_cmp nat_cmp xs ys
eight_cmp xs ys k l p q =
    (λ i. nat_cmp (onward_eight xs k i) (onward_eight ys l i)) ∙ sym (onward_cmp 0 0 xs ys (k ∙ sym l) p q)

-- what the first elements tell is told again by the whole
front : (n : ℕ) (xs ys : List ℕ) → ordering_then (slice_cmp nat_cmp (take n xs) (take n ys)) (slice_cmp nat_cmp xs ys) ≡ slice_cmp nat_cmp xs ys
front zero xs ys = refl
front (suc n) [] [] = refl
front (suc n) [] (y ∷ ys) = refl
front (suc n) (x ∷ xs) [] = refl
front (suc n) (x ∷ xs) (y ∷ ys) = again (nat_cmp x y) (slice_cmp nat_cmp (take n xs) (take n ys)) (slice_cmp nat_cmp xs ys) (front n xs ys)

-- a front and the rest, which may overlap
pub both_ends : (k n : ℕ) → k ≤ n → (xs ys : List ℕ)
    → ordering_then (slice_cmp nat_cmp (take n xs) (take n ys)) (slice_cmp nat_cmp (drop k xs) (drop k ys)) ≡ slice_cmp nat_cmp xs ys
both_ends zero n le xs ys = front n xs ys
both_ends (suc k) zero le xs ys = absurd (omega arith)
both_ends (suc k) (suc n) le [] [] = refl
both_ends (suc k) (suc n) le [] (y ∷ ys) = refl
both_ends (suc k) (suc n) le (x ∷ xs) [] = refl
both_ends (suc k) (suc n) le (x ∷ xs) (y ∷ ys) =
    then-then (nat_cmp x y) (slice_cmp nat_cmp (take n xs) (take n ys)) (slice_cmp nat_cmp (drop k xs) (drop k ys))
    ∙ ap (ordering_then (nat_cmp x y)) (both_ends k n (omega arith) xs ys)

fits-take : (n : ℕ) (bs : List ℕ) → ((i : ℕ) → get_or bs i 0 < 256) → (i : ℕ) → get_or (take n bs) i 0 < 256
fits-take n bs fits i =
    elim (cases_lt i n) [
      | inl lt ↦ rw (get_or-take n bs i 0 lt) (fits i)
      | inr le ↦ rw (get_or_past (take n bs) i 0 (omega (arith, length-take n bs))) (omega arith)
    ]

fits-drop : (n : ℕ) (bs : List ℕ) → ((i : ℕ) → get_or bs i 0 < 256) → (i : ℕ) → get_or (drop n bs) i 0 < 256
fits-drop n bs fits i = rw get_or-drop (fits (n + i))

-- the first eight of fourteen bytes, and the last eight
first_eight : (xs ys : List ℕ) → length xs ≡ 14 → length ys ≡ 14 → ((i : ℕ) → get_or xs i 0 < 256) → ((i : ℕ) → get_or ys i 0 < 256)
    → nat_cmp (from_be_bytes w64 (take 8 xs)) (from_be_bytes w64 (take 8 ys)) ≡ slice_cmp nat_cmp (take 8 xs) (take 8 ys)
first_eight xs ys k l p q = eight_cmp (take 8 xs) (take 8 ys) (omega (arith, length-take 8 xs)) (omega (arith, length-take 8 ys)) (fits-take 8 xs p) (fits-take 8 ys q)

last_eight : (xs ys : List ℕ) → length xs ≡ 14 → length ys ≡ 14 → ((i : ℕ) → get_or xs i 0 < 256) → ((i : ℕ) → get_or ys i 0 < 256)
    → nat_cmp (from_be_bytes w64 (drop 6 xs)) (from_be_bytes w64 (drop 6 ys)) ≡ slice_cmp nat_cmp (drop 6 xs) (drop 6 ys)
last_eight xs ys k l p q = eight_cmp (drop 6 xs) (drop 6 ys) (omega (arith, length-drop 6 xs)) (omega (arith, length-drop 6 ys)) (fits-drop 6 xs p) (fits-drop 6 ys q)

-- fourteen bytes by the first eight and the last eight
pub fourteen_cmp : (xs ys : List ℕ) → length xs ≡ 14 → length ys ≡ 14 → ((i : ℕ) → get_or xs i 0 < 256) → ((i : ℕ) → get_or ys i 0 < 256)
    → ordering_then (nat_cmp (from_be_bytes w64 (take 8 xs)) (from_be_bytes w64 (take 8 ys))) (nat_cmp (from_be_bytes w64 (drop 6 xs)) (from_be_bytes w64 (drop 6 ys)))
    ≡ slice_cmp nat_cmp xs ys
fourteen_cmp xs ys k l p q =
    (λ i. ordering_then (first_eight xs ys k l p q i) (last_eight xs ys k l p q i)) ∙ both_ends 6 8 (omega arith) xs ys

eq-cmp : (a b : ℕ) → eqb a b ≡ is_eq (nat_cmp a b)
eq-cmp a b = grind (arith, nat_tests)

both_eq : (o p : Ordering) → (is_eq o && is_eq p) ≡ is_eq (ordering_then p o)
both_eq Less Less = refl
both_eq Less Equal = refl
both_eq Less Greater = refl
both_eq Equal Less = refl
both_eq Equal Equal = refl
both_eq Equal Greater = refl
both_eq Greater Less = refl
both_eq Greater Equal = refl
both_eq Greater Greater = refl

-- fourteen bytes are the same where their last eight and their first eight are
pub fourteen_same : (xs ys : List ℕ) → length xs ≡ 14 → length ys ≡ 14 → ((i : ℕ) → get_or xs i 0 < 256) → ((i : ℕ) → get_or ys i 0 < 256)
    → (eqb (from_be_bytes w64 (drop 6 xs)) (from_be_bytes w64 (drop 6 ys)) && eqb (from_be_bytes w64 (take 8 xs)) (from_be_bytes w64 (take 8 ys)))
    ≡ bytes_eq xs ys
fourteen_same xs ys k l p q =
    (λ i. eq-cmp (from_be_bytes w64 (drop 6 xs)) (from_be_bytes w64 (drop 6 ys)) i && eq-cmp (from_be_bytes w64 (take 8 xs)) (from_be_bytes w64 (take 8 ys)) i)
    ∙ both_eq (nat_cmp (from_be_bytes w64 (drop 6 xs)) (from_be_bytes w64 (drop 6 ys))) (nat_cmp (from_be_bytes w64 (take 8 xs)) (from_be_bytes w64 (take 8 ys)))
    ∙ ap is_eq (fourteen_cmp xs ys k l p q)
    ∙ is_eq-slice_cmp xs ys
