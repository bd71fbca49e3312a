use Rattle.std.proofs.Common.{◌≡◌, ◌∙◌, ◌++◌, ◌∷◌, [], ℕ, List, None, Some, map, sym, ap}
use Rattle.std.specs.List.{flat_map}
use Rattle.toml.specs.Data.{Data}
use Rattle.toml.specs.View.{table_view, view}
use Rattle.exchange_agent.specs.declared.told.StockRules.{StockRules}
use Rattle.study_market.specs.Entries.{entry_of}
use Rattle.study_market.specs.EntryTests.{broken_at, earlier}
use Rattle.study_market.specs.Stocks.{stock_of}
use Rattle.study_market.proofs.EntryOrder.{stocks-found, none-found, flat-one}
use Rattle.study_market.proofs.stock_parts.read_stocks.Goals as goal

pub returns-in-Some-clause-refused : goal.returns-in-Some-clause-refused
returns-in-Some-clause-refused c r e =
    let same : c.in-Some.refusal ≡ r = cc e in
    sym (stocks-found (table_view c.args.table.now) (map view c.few_stocks.result.now) c.span.result c.in_ok-found.found c.earlier-found.result c.earlier.result
    c.repeat_broken.result c.series_broken.result c.few_stocks.ensures.stocks (sym c.stock_count_broken.ensures ∙ c.in_ok-unbroken.ensures.kept) c.span.ensures
    c.in_ok-found.ensures.broken c.repeat_broken.ensures c.series_broken.ensures (c.earlier-found.ensures ∙ ap (earlier c.in_ok-found.found) c.broken.ensures)
    (c.earlier.ensures ∙ ap (earlier c.earlier-found.result) c.broken-2.ensures))
    ∙ c.in-Some.is ∙ ap Some same

pub returns-in-None-clause-kept : goal.returns-in-None-clause-kept
returns-in-None-clause-kept c =
    sym (stocks-found (table_view c.args.table.now) (map view c.few_stocks.result.now) c.span.result c.in_ok-found.found c.earlier-found.result c.earlier.result
    c.repeat_broken.result c.series_broken.result c.few_stocks.ensures.stocks (sym c.stock_count_broken.ensures ∙ c.in_ok-unbroken.ensures.kept) c.span.ensures
    c.in_ok-found.ensures.broken c.repeat_broken.ensures c.series_broken.ensures (c.earlier-found.ensures ∙ ap (earlier c.in_ok-found.found) c.broken.ensures)
    (c.earlier.ensures ∙ ap (earlier c.earlier-found.result) c.broken-2.ensures))
    ∙ c.in-None.is

pub returns-in-None-clause-said : goal.returns-in-None-clause-said
returns-in-None-clause-said c =
    let ds = map view c.few_stocks.result.now in
    let none = none-found c.in_ok-found.found c.earlier-found.result c.earlier.result (broken_at 13 c.repeat_broken.result) (broken_at 18 c.series_broken.result)
    (c.earlier-found.ensures ∙ ap (earlier c.in_ok-found.found) c.broken.ensures) (c.earlier.ensures ∙ ap (earlier c.earlier-found.result) c.broken-2.ensures) c.in-None.is in
    c.in_ok-found.ensures.said none
    ∙ ap (λ (xs : List StockRules). xs ++ flat_map (λ (d : Data). stock_of (entry_of d) ∷ []) ds) c.new-stocks.ensures.items
    ∙ flat-one (λ (d : Data). stock_of (entry_of d)) ds
    ∙ ap (map (λ (d : Data). stock_of (entry_of d))) c.few_stocks.ensures.stocks
