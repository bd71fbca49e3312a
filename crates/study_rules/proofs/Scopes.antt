-- Lemmas on what edits may speak of.
use Rattle.std.proofs.Common.{◌≡◌, ◌≤◌, ◌<◌, ◌-◌, ◌++◌, ℕ, suc, List, [], ◌∷◌, map, length, replicate, get_or, None, ap, sym, ◌∙◌, arith, codes, subst}
use Rattle.std.proofs.lemmas.List.{get_or_append_left, get_or-replicate, length-replicate}
use Rattle.toml.specs.Data.{Data, Members}
use Rattle.toml.specs.View.{view}
use Rattle.toml.specs.declared.value.Value.{Value}
use Rattle.study_file.proofs.KeyLists.{length-mapped}
use Rattle.study_file.specs.Values.{string_at}
use Rattle.study_market.specs.MarketRules.{size_of, squares_broken}
use Rattle.study_market.specs.StockRules.{symbol_in, symbols, stocks}
use Rattle.study_market.proofs.Squares.{squares}
use Rattle.study_market.specs.AgentRules.{agents, count_of, counts_broken}
use Rattle.study_rules.specs.Entries.{entry_of}
use Rattle.study_rules.specs.Scope.{IsSmall, kinds_of}
use Rattle.study_rules.proofs.Few.{few-kinds}

pub stocks-count : (vs : List Value) → length (map symbol_in (map view vs)) ≡ length vs
stocks-count vs = length-mapped symbol_in (map view vs) ∙ length-mapped view vs

pub symbols-count : (t : Members) → length (symbols t) ≡ length (stocks t)
symbols-count t = length-mapped symbol_in (stocks t)

-- the kind of a trader of the first entry
pub kind-here : (d : Data) (ds : List Data) (n : ℕ) → n < count_of (entry_of d)
    → get_or (kinds_of (d ∷ ds)) n [] ≡ string_at (codes "kind") (entry_of d)
kind-here d ds n h =
    get_or_append_left (replicate (count_of (entry_of d)) (string_at (codes "kind") (entry_of d))) (kinds_of ds) [] n
    (let long = length-replicate (count_of (entry_of d)) (string_at (codes "kind") (entry_of d)) in omega (arith, long, h))
    ∙ get_or-replicate (count_of (entry_of d)) n (string_at (codes "kind") (entry_of d)) [] h

later : (xs ys : List (List ℕ)) (n : ℕ) → length xs ≤ n → get_or (xs ++ ys) n [] ≡ get_or ys (n - length xs) []
later [] ys n h = let e : n - 0 ≡ n = omega arith in ap (λ m. get_or ys m []) (sym e)
later (x ∷ xs) ys n h =
    let e : n ≡ suc (n - 1) = omega (arith, h) in
    let less : length xs ≤ n - 1 = omega (arith, h) in
    let same : n - 1 - length xs ≡ n - suc (length xs) = omega (arith, h) in
    ap (λ m. get_or (x ∷ (xs ++ ys)) m []) e ∙ later xs ys (n - 1) less ∙ ap (λ m. get_or ys m []) same

-- the kind of a trader of the other entries
pub kind-later : (d : Data) (ds : List Data) (n : ℕ) → count_of (entry_of d) ≤ n
    → get_or (kinds_of (d ∷ ds)) n [] ≡ get_or (kinds_of ds) (n - count_of (entry_of d)) []
kind-later d ds n h =
    let long = length-replicate (count_of (entry_of d)) (string_at (codes "kind") (entry_of d)) in
    later (replicate (count_of (entry_of d)) (string_at (codes "kind") (entry_of d))) (kinds_of ds) n (omega (arith, long, h))
    ∙ ap (λ m. get_or (kinds_of ds) (n - m) []) long

pub small_scope : (t : Members) (ss es : List Value) (n : ℕ) → length ss ≤ 16 → map view es ≡ agents t → counts_broken t ≡ None → n ≡ size_of t
    → squares_broken t ≡ None → IsSmall (record { stocks = map symbol_in (map view ss); kinds = kinds_of (map view es); groups = n })
small_scope t ss es n few same counts is square =
    let most : length (kinds_of (agents t)) ≤ 511 = few-kinds t counts in
    let size : size_of t ≤ 32 = (squares t square).0 in
    record {
      stocks = omega (arith, few, stocks-count ss);
      traders = subst (λ ds. length (kinds_of ds) ≤ 511) (sym same) most;
      groups = omega (arith, is, size);
    }
