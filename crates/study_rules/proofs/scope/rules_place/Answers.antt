use Rattle.std.proofs.Common.{◌≡◌, map, sym, ◌∙◌, bytes_eq, rules, tests}
use Rattle.std.proofs.lemmas.Iterator.{YieldsList-from_slice}
use Rattle.std.proofs.lemmas.Iterator.Search.{position_from_yields_List}
use Rattle.std.specs.Prelude.{position}
use Rattle.exchange_agent.specs.declared.told.StockRules.{StockRules}
use Rattle.study_file.proofs.KeyLists.{position-map, position-found}
use Rattle.study_rules.specs.Scope.{written_symbol}
use Rattle.study_rules.proofs.scope.rules_place.Goals as goal

pub returns-clause-place : goal.returns-clause-place
returns-clause-place c =
    let found : c.position.result ≡ position (λ (r : StockRules). bytes_eq (written_symbol r) c.args.symbol.now) c.args.stocks.now
    = position_from_yields_List (λ (r : StockRules). bytes_eq (written_symbol r) c.args.symbol.now) _ _ c.position.result c.position.ensures.ran (YieldsList-from_slice c.args.stocks.now cc) (λ x b q k. search (rules, tests)) in
    found ∙ sym (position-map written_symbol (λ name. bytes_eq name c.args.symbol.now) c.args.stocks.now)

pub returns-clause-within : goal.returns-clause-within
returns-clause-within c =
    let found : c.position.result ≡ position (λ (r : StockRules). bytes_eq (written_symbol r) c.args.symbol.now) c.args.stocks.now
    = position_from_yields_List (λ (r : StockRules). bytes_eq (written_symbol r) c.args.symbol.now) _ _ c.position.result c.position.ensures.ran (YieldsList-from_slice c.args.stocks.now cc) (λ x b q k. search (rules, tests)) in
    position-found (λ name. bytes_eq name c.args.symbol.now) (map written_symbol c.args.stocks.now) c.position.result
    (found ∙ sym (position-map written_symbol (λ name. bytes_eq name c.args.symbol.now) c.args.stocks.now))
