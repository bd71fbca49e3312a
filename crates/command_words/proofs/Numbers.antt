-- Numbers that the words write.
use Rattle.std.proofs.Common.{ℕ, ◌<◌, ◌≤◌, ◌^◌, Bool, true, false, List, length, ◌≡◌, Option, Some, None, if◌then◌else◌, option_and_then, refl, rules, arith}
use Rattle.std.specs.Int.{is_in_range}
use Rattle.std.specs.List.{list_all}
use Rattle.std.specs.Char.{is_ascii_digit}
use Rattle.std.specs.Str.Parse.{digits_value}
use Rattle.std.proofs.lemmas.Bool.{and_parts}
use Rattle.std.proofs.lemmas.Bool.Decides.{nat_tests}
use Rattle.std.proofs.lemmas.Str.Parse.{IsNumeralModel, numerals_by_value, digits_value_short}
use Rattle.command_words.specs.Numbers.{is_digits, number_of, count_of}

abbrev AreDigits : List ℕ → Type 0
AreDigits text = list_all is_ascii_digit text ≡ true

-- std's number of digits is that of these
pub numerals : IsNumeralModel AreDigits (digits_value 10)
numerals = numerals_by_value AreDigits (search rules)

-- what is given under a test: the test held, and the value is that one
pub given : {A : Type 0} (test : Bool) (value wanted : A) → (if test then Some value else None) ≡ Some wanted → (test ≡ true) × (value ≡ wanted)
given true value wanted h = (refl, cc)
given false value wanted h = cc

-- 1 to so many digits
pub digits_parts : (most : ℕ) (text : List ℕ) → is_digits most text ≡ true → (1 ≤ length text) × (length text ≤ most) × AreDigits text
digits_parts most text h =
    let parts = and_parts (is_in_range 1 most (length text)) (list_all is_ascii_digit text) h in
    let here : is_in_range 1 most (length text) ≡ true = parts.0 in
    (grind (arith, nat_tests), grind (arith, nat_tests), parts.1)

-- digits write a number of so many digits
pub digits_are_short : (most : ℕ) (text : List ℕ) → is_digits most text ≡ true → digits_value 10 text < 10 ^ most
digits_are_short most text h =
    let parts = digits_parts most text h in
    digits_value_short numerals text most parts.2 parts.1

-- a number was written by digits
pub number_parts : (most : ℕ) (text : List ℕ) (n : ℕ) → number_of most text ≡ Some n → (is_digits most text ≡ true) × (digits_value 10 text ≡ n)
number_parts most text n h = given (is_digits most text) (digits_value 10 text) n h

pub number_is_short : (most : ℕ) (text : List ℕ) (n : ℕ) → number_of most text ≡ Some n → n < 10 ^ most
number_is_short most text n h =
    let parts = number_parts most text n h in
    let short : digits_value 10 text < 10 ^ most = digits_are_short most text parts.0 in
    rw (← parts.1) short

counted : (least greatest : ℕ) (o : Option ℕ) (n : ℕ) → option_and_then (λ n. if is_in_range least greatest n then Some n else None) o ≡ Some n → (least ≤ n) × (n ≤ greatest)
counted least greatest None n h = cc
counted least greatest (Some m) n h =
    let parts = given (is_in_range least greatest m) m n h in
    let here : is_in_range least greatest m ≡ true = parts.0 in
    let same : m ≡ n = parts.1 in
    (grind (arith, nat_tests), grind (arith, nat_tests))

-- a count lies in its range
pub count_is_in_range : (least greatest : ℕ) (text : List ℕ) (n : ℕ) → count_of least greatest text ≡ Some n → (least ≤ n) × (n ≤ greatest)
count_is_in_range least greatest text n h = counted least greatest (number_of 4 text) n h
