-- Lemmas on the rows of latencies.
use Rattle.std.proofs.Common.{◌≡◌, ◌==◌, not, Bool, true, false, ℕ, ◌+◌, ◌≤◌, ℤ, pos, List, [], ◌∷◌, map, refl, ap, sym, arith, ◌∙◌, length, Option, None, Some, nat_le, option_map}
use Rattle.std.specs.Prelude.{position}
use Rattle.std.specs.Option.{option_or}
use Rattle.std.specs.Int.{is_in_range}
use Rattle.std.specs.List.{list_all}
use Rattle.std.proofs.lemmas.Bool.{and_parts, and_from}
use Rattle.std.proofs.lemmas.Bool.Decides.{nat_tests}
use Rattle.toml.specs.Data.{Data, Members}
use Rattle.toml.specs.View.{view}
use Rattle.toml.specs.declared.value.Value.{Value}
use Rattle.study_file.specs.Values.{list_in, number_in, is_between}
use Rattle.study_market.specs.MarketRules.{bases, jitters, size_of, is_square, squares_broken, cell_outside}
use Rattle.study_market.specs.StockRules.{stocks, stock_count_broken}
use Rattle.study_file.proofs.KeyLists.{length-mapped}
use Rattle.study_market.proofs.Held.{held-unless}
use Rattle.study_market.proofs.LatencyRanges.{groups}
use Rattle.study_market.proofs.Numbers.{natural-in-range}

fits : (n size : ℕ) → size ≤ 32 → (n == size) ≡ true → nat_le n 32 ≡ true
fits n size le h = grind (arith, nat_tests, le, h)

short : (n m size : ℕ) → n ≡ m → size ≤ 32 → (n == size) ≡ true → m ≤ 32
short n m size e le h = grind (arith, nat_tests, e, le, h)

narrow : (size : ℕ) (vs : List Value) → size ≤ 32 → list_all (λ d. length (list_in d) == size) (map view vs) ≡ true
    → list_all (λ v. nat_le (length (list_in (view v))) 32) vs ≡ true
narrow size [] le h = refl
narrow size (v ∷ vs) le h =
    let parts : ((length (list_in (view v)) == size) ≡ true) × (list_all (λ d. length (list_in d) == size) (map view vs) ≡ true)
    = and_parts (length (list_in (view v)) == size) (list_all (λ d. length (list_in d) == size) (map view vs)) h in
    and_from (nat_le (length (list_in (view v))) 32) (list_all (λ x. nat_le (length (list_in (view x))) 32) vs)
    (fits (length (list_in (view v))) size le parts.0) (narrow size vs le parts.1)

pub short-rows : (size : ℕ) (vs : List Value) (rows : List Data) → map view vs ≡ rows → size ≤ 32 → is_square size rows ≡ true
    → (length vs ≤ 32) × (list_all (λ v. nat_le (length (list_in (view v))) 32) vs ≡ true)
short-rows size vs rows e le h =
    let parts : ((length (map view vs) == size) ≡ true) × (list_all (λ d. length (list_in d) == size) (map view vs) ≡ true)
    = and_parts (length (map view vs) == size) (list_all (λ d. length (list_in d) == size) (map view vs)) (ap (is_square size) e ∙ h) in
    (short (length (map view vs)) (length vs) size (length-mapped view vs) le parts.0, narrow size vs le parts.1)

pub squares : (t : Members) → squares_broken t ≡ None
    → (size_of t ≤ 32) × (is_square (size_of t) (bases t) ≡ true) × (is_square (size_of t) (jitters t) ≡ true)
squares t h = let sizes = groups t h in (sizes.0.not_above, sizes.1, sizes.2)

pub cell-here : (high : ℤ) (place : ℕ) (rows : List Value) (v : Value) (rest : List Value) (column : ℕ) → rows ≡ v ∷ rest
    → Some column ≡ position (λ d. not (is_between (pos 0) high (number_in d))) (list_in (view v))
    → Some (place + column) ≡ cell_outside high place (map view rows)
cell-here high place rows v rest column e f =
    ap (λ o. option_or (option_map (λ c. place + c) o) (cell_outside high (place + 32) (map view rest))) f
    ∙ sym (ap (λ xs. cell_outside high place (map view xs)) e)

pub cell-later : (high : ℤ) (place : ℕ) (rows : List Value) (v : Value) (rest : List Value) (r : Option ℕ) → rows ≡ v ∷ rest
    → None ≡ position (λ d. not (is_between (pos 0) high (number_in d))) (list_in (view v))
    → r ≡ cell_outside high (place + 32) (map view rest)
    → r ≡ cell_outside high place (map view rows)
cell-later high place rows v rest r e f h =
    h
    ∙ ap (λ o. option_or (option_map (λ c. place + c) o) (cell_outside high (place + 32) (map view rest))) f
    ∙ sym (ap (λ xs. cell_outside high place (map view xs)) e)

-- where the count of stocks is right, there are few
pub few-stocks : (t : Members) → stock_count_broken t ≡ None → length (stocks t) ≤ 16
few-stocks t h =
    (natural-in-range 1 16 (length (stocks t)) (held-unless (is_in_range 1 16 (length (stocks t))) 0 h)).not_above
