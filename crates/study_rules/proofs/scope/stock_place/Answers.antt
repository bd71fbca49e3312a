use Rattle.std.proofs.Common.{◌≡◌, map, sym, ◌∙◌, bytes_eq, rules, tests}
use Rattle.std.proofs.lemmas.Iterator.{YieldsList-from_slice}
use Rattle.std.proofs.lemmas.Iterator.Search.{position_from_yields_List}
use Rattle.std.specs.Prelude.{position}
use Rattle.toml.specs.Data.{Data}
use Rattle.toml.specs.View.{view}
use Rattle.toml.specs.declared.value.Value.{Value}
use Rattle.study_file.proofs.KeyLists.{position-map, position-found}
use Rattle.study_market.specs.StockRules.{symbol_in}
use Rattle.study_rules.proofs.scope.stock_place.Goals as goal

pub returns-clause-place : goal.returns-clause-place
returns-clause-place c =
    let found : c.position.result ≡ position (λ (v : Value). bytes_eq (symbol_in (view v)) c.args.symbol.now) c.args.stocks.now
    = position_from_yields_List (λ (v : Value). bytes_eq (symbol_in (view v)) c.args.symbol.now) _ _ c.position.result c.position.ensures.ran (YieldsList-from_slice c.args.stocks.now cc) (λ x b q k. search (rules, tests)) in
    found
    ∙ sym (position-map view (λ (d : Data). bytes_eq (symbol_in d) c.args.symbol.now) c.args.stocks.now)
    ∙ sym (position-map symbol_in (λ name. bytes_eq name c.args.symbol.now) (map view c.args.stocks.now))

pub returns-clause-within : goal.returns-clause-within
returns-clause-within c =
    let found : c.position.result ≡ position (λ (v : Value). bytes_eq (symbol_in (view v)) c.args.symbol.now) c.args.stocks.now
    = position_from_yields_List (λ (v : Value). bytes_eq (symbol_in (view v)) c.args.symbol.now) _ _ c.position.result c.position.ensures.ran (YieldsList-from_slice c.args.stocks.now cc) (λ x b q k. search (rules, tests)) in
    position-found (λ name. bytes_eq name c.args.symbol.now) (map symbol_in (map view c.args.stocks.now)) c.position.result
    (found
    ∙ sym (position-map view (λ (d : Data). bytes_eq (symbol_in d) c.args.symbol.now) c.args.stocks.now)
    ∙ sym (position-map symbol_in (λ name. bytes_eq name c.args.symbol.now) (map view c.args.stocks.now)))
