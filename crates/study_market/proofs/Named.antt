-- The stock of a symbol among the entries of the stocks.
use Rattle.std.proofs.Common.{◌≡◌, ◌∙◌, ℕ, List, Option, Some, map, unwrap_or, sym, ap, bytes_eq}
use Rattle.std.specs.Prelude.{position, is_some}
use Rattle.toml.specs.View.{view}
use Rattle.toml.specs.declared.value.Value.{Value}
use Rattle.study_file.proofs.KeyLists.{position-map}
use Rattle.study_file.specs.Tables.{is_named}
use Rattle.study_market.specs.StockRules.{symbol_in}
use Rattle.study_market.specs.Entries.{place_of}
use Rattle.study_market.proofs.Lists.{position-any}

symbol-place : (vs : List Value) (symbol : List ℕ)
    → position (λ (v : Value). bytes_eq (symbol_in (view v)) symbol) vs ≡ position (λ (name : List ℕ). bytes_eq name symbol) (map symbol_in (map view vs))
symbol-place vs symbol =
    sym (position-map view (λ d. bytes_eq (symbol_in d) symbol) vs)
    ∙ sym (position-map symbol_in (λ (name : List ℕ). bytes_eq name symbol) (map view vs))

pub is-known : (vs : List Value) (symbol : List ℕ) (o : Option ℕ) → o ≡ position (λ (v : Value). bytes_eq (symbol_in (view v)) symbol) vs
    → is_some o ≡ is_named (map symbol_in (map view vs)) symbol
is-known vs symbol o e =
    ap is_some (e ∙ symbol-place vs symbol) ∙ position-any (λ (name : List ℕ). bytes_eq name symbol) (map symbol_in (map view vs))

pub known-at : (vs : List Value) (symbol : List ℕ) (k : ℕ) → Some k ≡ position (λ (v : Value). bytes_eq (symbol_in (view v)) symbol) vs
    → k ≡ place_of (map symbol_in (map view vs)) symbol
known-at vs symbol k e = ap (λ (o : Option ℕ). unwrap_or o 0) (e ∙ symbol-place vs symbol)
