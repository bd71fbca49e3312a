-- What a study's entries say of its stocks, and of their values.
use Rattle.std.specs.Prelude.{◌≡◌, ◌<◌, ℕ, false, List, length, map, slice_index_or, codes, if◌then◌else◌}
use Rattle.std.specs.List.{enumerate_from}
use Rattle.toml.specs.Data.{Data, Members}
use Rattle.market_types.specs.Readers.{padded}
use Rattle.market_rules.specs.declared.fees.FeeTable.{FeeTable}
use Rattle.exchange_agent.specs.declared.told.StockRules.{StockRules}
use Rattle.fundamental_series.specs.Ranges.{AreRows}
use Rattle.fundamental_series.specs.Made.{Made, RuleMade, by_rule, by_rows}
use Rattle.fundamental_series.specs.declared.rule.SeriesRow.{SeriesRow}
use Rattle.fundamental_series.specs.declared.rule.SeriesRule.{SeriesRule}
use Rattle.study_file.specs.Values.{number_at, string_at, list_at}
use Rattle.study_market.specs.MarketRules.{start_of, close_of}
use Rattle.study_market.specs.StockRules.{stocks, goes_by, band_in}
use Rattle.study_market.specs.Rows.{rows_of}
use Rattle.study_market.specs.Entries.{entry_of, natural_at}
use Rattle.study_market.specs.Market.{key_of}

abbrev pub fees_of : Members → FeeTable
fees_of t = record { add = number_at (codes "add") t; take = number_at (codes "take") t }

-- the symbol, ticks and fees of a stock
abbrev pub stock_of : Members → StockRules
stock_of t = record {
  symbol = record { 0 = padded 8 (string_at (codes "symbol") t) };
  ticks = map band_in (list_at (codes "bands") t);
  fees = fees_of t;
}

abbrev pub stock_rules_of : Members → List StockRules
stock_rules_of t = map (λ (d : Data). stock_of (entry_of d)) (stocks t)

-- the rule of a stock's values
abbrev pub series_rule_of : Members → SeriesRule
series_rule_of t = record {
  start = natural_at (codes "start") t;
  mean = natural_at (codes "mean") t;
  pull = natural_at (codes "pull") t;
  shock = natural_at (codes "shock") t;
  every = natural_at (codes "every") t;
}

abbrev pub rule_made_of : Members → ℕ → Members → RuleMade
rule_made_of t number stock =
    record { key = key_of t; stock = number; rule = series_rule_of stock; start = start_of t; close = close_of t }

-- the values of the stock of a number, from 0: by its rule, or by its rows of the series file
abbrev pub series_in : Members → List (List SeriesRow) → ℕ → Members → Made
series_in t tables number stock =
    if goes_by (codes "rule") stock then by_rule (rule_made_of t number stock) else by_rows (rows_of tables number)

abbrev pub series_of : Members → List (List SeriesRow) → List Made
series_of t tables = map (λ (p : ℕ × Data). series_in t tables p.0 (entry_of p.1)) (enumerate_from 0 (stocks t))

-- each stock that doesn't go by a rule has rows of its values
abbrev pub HaveRows : List Data → List (List SeriesRow) → Type 0
HaveRows entries tables =
    (k : ℕ) (d : Data) → k < length entries → goes_by (codes "rule") (entry_of (slice_index_or entries k d)) ≡ false → AreRows (rows_of tables k)
