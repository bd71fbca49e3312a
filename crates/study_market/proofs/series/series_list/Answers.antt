use Rattle.std.proofs.Common.{◌≡◌, ◌∙◌, ◌++◌, ◌∷◌, [], ℕ, true, subst, sym, ap, codes, map, take, List}
use Rattle.std.specs.List.{enumerate_from}
use Rattle.toml.specs.Data.{Data, Members, as_table}
use Rattle.toml.specs.View.{view, table_view}
use Rattle.toml.specs.declared.value.Value.{Value}
use Rattle.fundamental_series.specs.Made.{Made}
use Rattle.study_file.specs.Keys.{passes}
use Rattle.study_market.specs.MarketRules.{span_of}
use Rattle.study_market.specs.StockRules.{has_prices, has_pace, goes_by}
use Rattle.study_market.specs.Entries.{entry_of}
use Rattle.study_market.specs.Stocks.{series_in}
use Rattle.study_market.proofs.Lists.{value-passes}
use Rattle.study_market.proofs.SeriesRanges.{series-more, all-series, value-rows}
use Rattle.study_market.proofs.series.series_list.Goals as goal

pub entry_series-requires : goal.entry_series-requires
entry_series-requires c =
    let item : Value = c.index-values-number.result in
    let here = sym c.index-values-number.is in record {
      key = c.requires.key;
      prices = subst (λ (v : Value). passes has_prices (as_table (view v)) ≡ true) here (value-passes has_prices c.args.values.now c.loop-number.number item c.loop-number-test.true c.requires.prices);
      pace = subst (λ (v : Value). passes (has_pace (span_of (table_view c.args.table.now))) (as_table (view v)) ≡ true) here
          (value-passes (has_pace (span_of (table_view c.args.table.now))) c.args.values.now c.loop-number.number item c.loop-number-test.true c.requires.pace);
      rows = λ other. value-rows c.args.values.now c.args.tables.now c.loop-number.number item c.loop-number-test.true c.requires.rows
          (ap (λ (v : Value). goes_by (codes "rule") (entry_of (view v))) here ∙ other);
    }

pub loop-number-preserved : goal.loop-number-preserved
loop-number-preserved c =
    let item : Value = c.index-values-number.result in
    let t : Members = table_view c.args.table.now in
    let before = take c.loop-number.number (map (λ (p : ℕ × Data). series_in t c.args.tables.now p.0 (entry_of p.1)) (enumerate_from 0 (map view c.args.values.now))) in
    c.in_ok-push.ensures.items
    ∙ ap (λ (xs : List Made). xs ++ c.in_ok-series.series ∷ []) c.loop-number.invariant
    ∙ ap (λ (m : Made). before ++ m ∷ []) (c.in_ok-series.ensures ∙ ap (λ (v : Value). series_in t c.args.tables.now c.loop-number.number (entry_of (view v))) c.index-values-number.is)
    ∙ sym (series-more t c.args.tables.now c.args.values.now c.loop-number.number item c.loop-number-test.true)

pub returns : goal.returns
returns c = c.loop-number.invariant ∙ all-series (table_view c.args.table.now) c.args.tables.now c.args.values.now c.loop-number.number c.loop-number-test.false
