use Rattle.std.proofs.Common.{◌∙◌, ap, sym, subst, List, map, ℕ}
use Rattle.std.specs.List.{enumerate_from}
use Rattle.toml.specs.Data.{Data}
use Rattle.toml.specs.View.{table_view}
use Rattle.study_file.specs.Values.{first_failing}
use Rattle.study_market.specs.MarketRules.{span_of}
use Rattle.study_market.specs.StockRules.{has_prices, has_pace}
use Rattle.study_market.specs.Entries.{entry_of}
use Rattle.study_market.specs.Stocks.{HaveRows, series_in}
use Rattle.study_market.proofs.series.all_series.Goals as goal

pub series_list-requires : goal.series_list-requires
series_list-requires c = record {
  few = c.few_stocks.ensures.few;
  key = c.key-key.ensures;
  prices = ap (first_failing has_prices) c.few_stocks.ensures.stocks ∙ c.requires.prices;
  pace = ap (first_failing (has_pace (span_of (table_view c.args.table.now)))) c.few_stocks.ensures.stocks ∙ c.requires.pace;
  rows = subst (λ (ds : List Data). HaveRows ds c.args.tables.now) (sym c.few_stocks.ensures.stocks) c.requires.rows;
}

pub returns : goal.returns
returns c =
    c.new.ensures
    ∙ c.in_ok-list.ensures
    ∙ ap (λ (ds : List Data). map (λ (p : ℕ × Data). series_in (table_view c.args.table.now) c.args.tables.now p.0 (entry_of p.1)) (enumerate_from 0 ds)) c.few_stocks.ensures.stocks
