use Rattle.std.proofs.Common.{◌≡◌, ◌≤◌, ◌<◌, ◌^◌, ◌&&◌, ℕ, List, length, true, ap₂, arith, rules}
use Rattle.std.specs.Int.{is_in_range}
use Rattle.std.specs.List.{list_all}
use Rattle.std.proofs.lemmas.Bool.{and_parts}
use Rattle.std.proofs.lemmas.Bool.Decides.{nat_tests}
use Rattle.study_market.specs.Records.{is_digits, number_of}
use Rattle.study_market.proofs.Digits.{small-number}
use Rattle.reopening_desk.proofs.number.read_number.Goals as goal

-- at most so many digits are at most 14
small-digits : (most : ℕ) (text : List ℕ) → most ≤ 14 → is_digits most text ≡ true → number_of text < 10 ^ 14
small-digits most text few h =
    let parts : (is_in_range 1 most (length text) ≡ true) × (list_all (is_in_range 48 57) text ≡ true) = and_parts (is_in_range 1 most (length text)) (list_all (is_in_range 48 57) text) h in
    let here : is_in_range 1 most (length text) ≡ true = parts.0 in
    let room : is_in_range 1 14 (length text) ≡ true = grind (arith, nat_tests, here) in
    small-number text (ap₂ ◌&&◌ room parts.1)

pub number_after-requires-clause-small : goal.number_after-requires-clause-small
number_after-requires-clause-small c =
    let test : is_digits c.args.most c.args.text.now ≡ true = search rules in
    small-digits c.args.most c.args.text.now c.requires test
