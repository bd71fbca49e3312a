-- The latencies of an accepted study are in their ranges.
use Rattle.std.proofs.Common.{◌≡◌, ◌∙◌, ◌≤◌, ◌<◌, ◌+◌, ◌==◌, ◌&&◌, true, not, ℕ, ℤ, pos, unsigned_abs, List, [], ◌∷◌, length, get_or, map, Option, None, Some, All, refl, subst, arith}
use Rattle.std.specs.Prelude.{position, option_map}
use Rattle.std.specs.Int.{is_in_range}
use Rattle.std.specs.List.{list_all}
use Rattle.std.proofs.lemmas.Bool.{and_parts, eqb-true, not-false}
use Rattle.std.proofs.lemmas.List.{length-map, get_or-map}
use Rattle.std.proofs.lemmas.List.Elements.{All-nil, All-cons, All-map}
use Rattle.toml.specs.Data.{Data, Members}
use Rattle.toml.specs.View.{view}
use Rattle.toml.specs.declared.value.Value.{Value}
use Rattle.market_types.specs.Limits.{longest_delay}
use Rattle.latency_model.specs.Ranges.{IsSquare, IsInRange}
use Rattle.study_file.specs.Values.{number_in, list_in, is_between}
use Rattle.study_market.specs.MarketRules.{bases, jitters, size_of, is_square, squares_broken, cells_broken, cell_outside}
use Rattle.study_market.specs.Market.{numbers_in, latencies_of}
use Rattle.study_market.proofs.Held.{both-none, held-unless}
use Rattle.study_market.proofs.Lists.{position-none, all-pass}
use Rattle.study_market.proofs.Numbers.{Within, natural-between, natural-in-range}

none-placed : (place : ℕ) (o : Option ℕ) → option_map (λ (column : ℕ). place + column) o ≡ None → o ≡ None
none-placed place None h = refl
none-placed place (Some column) h = absurd (cc h)

-- the numbers of each row are in their range
pub each-cell : (high : ℤ) (place : ℕ) (ds : List Data) → cell_outside high place ds ≡ None
    → All (λ (d : Data). All (λ (x : Data). is_between (pos 0) high (number_in x) ≡ true) (list_in d)) ds
each-cell high place [] h = All-nil (λ (d : Data). All (λ (x : Data). is_between (pos 0) high (number_in x) ≡ true) (list_in d))
each-cell high place (d ∷ ds) h =
    let parts = both-none (option_map (λ (column : ℕ). place + column) (position (λ (x : Data). not (is_between (pos 0) high (number_in x))) (list_in d))) (cell_outside high (place + 32) ds) h in
    let none = none-placed place (position (λ (x : Data). not (is_between (pos 0) high (number_in x))) (list_in d)) parts.0 in
    All-cons (λ (e : Data). All (λ (x : Data). is_between (pos 0) high (number_in x) ≡ true) (list_in e)) d ds
    (λ k e within. not-false (is_between (pos 0) high (number_in (get_or (list_in d) k e)))
    (position-none (λ (x : Data). not (is_between (pos 0) high (number_in x))) (list_in d) none k e within))
    (each-cell high (place + 32) ds parts.1)

low-numbers : (high : ℕ) (d : Data) → All (λ (x : Data). is_between (pos 0) (pos high) (number_in x) ≡ true) (list_in d) → All (λ (n : ℕ). n ≤ high) (numbers_in d)
low-numbers high d h =
    All-map (λ (n : ℕ). n ≤ high) (λ (x : Data). unsigned_abs (number_in x)) (list_in d)
    (λ k e within. (natural-between 0 high (number_in (get_or (list_in d) k e)) (h k e within)).not_above)

square-rows : (size : ℕ) (ds : List Data) → is_square size ds ≡ true → IsSquare size (map numbers_in ds)
square-rows size ds h =
    let parts : ((length ds == size) ≡ true) × (list_all (λ (d : Data). length (list_in d) == size) ds ≡ true)
    = and_parts (length ds == size) (list_all (λ (d : Data). length (list_in d) == size) ds) h in record {
      rows = length-map ds numbers_in ∙ eqb-true (length ds) size parts.0;
      columns = All-map (λ (row : List ℕ). length row ≡ size) numbers_in ds
          (λ k d within. length-map (list_in (get_or ds k d)) (λ (x : Data). unsigned_abs (number_in x))
          ∙ eqb-true (length (list_in (get_or ds k d))) size (all-pass (λ (e : Data). length (list_in e) == size) ds parts.1 k d within));
    }

-- how many groups there are
pub groups : (t : Members) → squares_broken t ≡ None
    → Within 1 32 (size_of t) × (is_square (size_of t) (bases t) ≡ true) × (is_square (size_of t) (jitters t) ≡ true)
groups t h =
    let all = held-unless (is_in_range 1 32 (size_of t) && (is_square (size_of t) (bases t) && is_square (size_of t) (jitters t))) 0 h in
    let range = and_parts (is_in_range 1 32 (size_of t)) (is_square (size_of t) (bases t) && is_square (size_of t) (jitters t)) all in
    let both = and_parts (is_square (size_of t) (bases t)) (is_square (size_of t) (jitters t)) range.1 in
    (natural-in-range 1 32 (size_of t) range.0, both.0, both.1)

pub are-latencies : (t : Members) → squares_broken t ≡ None → cells_broken t ≡ None → IsInRange (latencies_of t)
are-latencies t square cells =
    let sizes = groups t square in
    let same : length (map numbers_in (bases t)) ≡ size_of t = length-map (bases t) numbers_in in
    let low = (both-none (cell_outside (pos 3600000000000) 0 (bases t)) (cell_outside (pos 4294967295) 1024 (jitters t)) cells).0 in record {
      some_group = rw same sizes.0.not_below;
      few_groups = rw same sizes.0.not_above;
      base_square = rw same (square-rows (size_of t) (bases t) sizes.1);
      jitter_square = rw same (square-rows (size_of t) (jitters t) sizes.2);
      base_low = All-map (All (λ (n : ℕ). n ≤ longest_delay)) numbers_in (bases t)
          (λ k d within. low-numbers 3600000000000 (get_or (bases t) k d) (each-cell (pos 3600000000000) 0 (bases t) low k d within));
    }

-- the same of the values that say the rows
pub value-cells : (high : ℤ) (place : ℕ) (vs : List Value) (i : ℕ) (d : Value) → i < length vs → cell_outside high place (map view vs) ≡ None
    → All (λ (x : Data). is_between (pos 0) high (number_in x) ≡ true) (list_in (view (get_or vs i d)))
value-cells high place vs i d within h =
    subst (λ (e : Data). All (λ (x : Data). is_between (pos 0) high (number_in x) ≡ true) (list_in e)) (get_or-map view vs i d (view d) within)
    (each-cell high place (map view vs) h i (view d) (omega (arith, within, length-map vs view)))

pub value-cell : (high : ℤ) (vs : List Value) (i : ℕ) (d : Value) → i < length vs → All (λ (x : Data). is_between (pos 0) high (number_in x) ≡ true) (map view vs)
    → is_between (pos 0) high (number_in (view (get_or vs i d))) ≡ true
value-cell high vs i d within h =
    subst (λ (e : Data). is_between (pos 0) high (number_in e) ≡ true) (get_or-map view vs i d (view d) within) (h i (view d) (omega (arith, within, length-map vs view)))
