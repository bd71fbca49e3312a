-- Lemmas on the numbers that digits say.
use Rattle.std.proofs.Common.{◌≡◌, ◌<◌, ◌≤◌, ◌+◌, ◌-◌, ◌*◌, ◌^◌, ℕ, List, [], ◌∷◌, map, length, true, refl, sym, subst, arith}
use Rattle.std.specs.Int.{is_in_range}
use Rattle.std.specs.Int.Digits.{number_from_digits_after, AllBelowBase}
use Rattle.std.specs.List.{list_all}
use Rattle.std.proofs.lemmas.Bool.{and_parts}
use Rattle.std.proofs.lemmas.Bool.Decides.{nat_tests}
use Rattle.std.proofs.lemmas.Int.Digits.{number_lt}
use Rattle.std.proofs.Math.Nat.{pow-le-pow_right}
use Rattle.study_file.proofs.KeyLists.{length-mapped}
use Rattle.study_market.specs.Records.{number_after, number_of, is_digits}

pub not-below : (n : ℕ) (text : List ℕ) → n ≤ number_after n text
not-below n [] = omega arith
not-below n (c ∷ cs) = omega (arith, not-below (n * 10 + (c - 48)) cs)

same-number : (n : ℕ) (text : List ℕ) → number_after n text ≡ number_from_digits_after 10 n (map (λ c. c - 48) text)
same-number n [] = refl
same-number n (c ∷ cs) = same-number (n * 10 + (c - 48)) cs

digit-below : (c : ℕ) → is_in_range 48 57 c ≡ true → c - 48 < 10
digit-below c h = grind (arith, nat_tests, h)

all-below : (text : List ℕ) → list_all (is_in_range 48 57) text ≡ true → AllBelowBase 10 (map (λ c. c - 48) text)
all-below [] h = tt
all-below (c ∷ cs) h =
    let parts : (is_in_range 48 57 c ≡ true) × (list_all (is_in_range 48 57) cs ≡ true) = and_parts (is_in_range 48 57 c) (list_all (is_in_range 48 57) cs) h in
    (digit-below c parts.0, all-below cs parts.1)

few-digits : (n : ℕ) → is_in_range 1 14 n ≡ true → n ≤ 14
few-digits n h = grind (arith, nat_tests, h)

-- 1 to 14 digits say a number of 14 digits
pub small-number : (text : List ℕ) → is_digits 14 text ≡ true → number_of text < 10 ^ 14
small-number text h =
    let parts : (is_in_range 1 14 (length text) ≡ true) × (list_all (is_in_range 48 57) text ≡ true) = and_parts (is_in_range 1 14 (length text)) (list_all (is_in_range 48 57) text) h in
    let below : number_from_digits_after 10 0 (map (λ c. c - 48) text) < 10 ^ length (map (λ c. c - 48) text) = number_lt 10 (map (λ c. c - 48) text) (all-below text parts.1) in
    let same : number_of text ≡ number_from_digits_after 10 0 (map (λ c. c - 48) text) = same-number 0 text in
    let few : length (map (λ c. c - 48) text) ≤ 14 = subst (λ n. n ≤ 14) (sym (length-mapped (λ c. c - 48) text)) (few-digits (length text) parts.0) in
    let room : 10 ^ length (map (λ c. c - 48) text) ≤ 10 ^ 14 = pow-le-pow_right (omega arith) few in
    omega (arith, below, same, room)

-- one more digit
pub step : (n c : ℕ) (text rest : List ℕ) → text ≡ c ∷ rest → number_after n text < 10 ^ 14
    → (n * 10 + (c - 48) < 10 ^ 14) × (number_after (n * 10 + (c - 48)) rest < 10 ^ 14)
step n c text rest e h =
    let small : number_after (n * 10 + (c - 48)) rest < 10 ^ 14 = subst (λ xs. number_after n xs < 10 ^ 14) e h in
    (omega (arith, small, not-below (n * 10 + (c - 48)) rest), small)

pub step-digits : (c : ℕ) (text rest : List ℕ) → text ≡ c ∷ rest → list_all (is_in_range 48 57) text ≡ true → list_all (is_in_range 48 57) rest ≡ true
step-digits c text rest e h =
    let all : list_all (is_in_range 48 57) (c ∷ rest) ≡ true = subst (λ xs. list_all (is_in_range 48 57) xs ≡ true) e h in
    (and_parts (is_in_range 48 57 c) (list_all (is_in_range 48 57) rest) all).1
