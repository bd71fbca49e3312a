-- What a run of a study starts from, by its tables and by the rows of its series file.
use Rattle.std.specs.Prelude.{◌≡◌, ◌==◌, ℕ, Bool, pos, List, Option, None, Ok, codes}
use Rattle.toml.specs.Data.{Members}
use Rattle.market_floor.specs.declared.opening.Opening.{Opening}
use Rattle.fundamental_series.specs.declared.rule.SeriesRow.{SeriesRow}
use Rattle.study_market.specs.MarketRules.{start_of, close_of, exchange_of}
use Rattle.study_market.specs.FirstOfMarket.{first_broken, tables_of}
use Rattle.study_market.specs.Entries.{natural_at, natural_or}
use Rattle.study_market.specs.Market.{key_of, latencies_of}
use Rattle.study_market.specs.Stocks.{stock_rules_of, series_of}
use Rattle.study_market.specs.Changes.{changes_of}
use Rattle.study_market.specs.Traders.{traders_of}

-- the most events of a run
abbrev pub limit_of : Members → ℕ
limit_of t = natural_at (codes "events") t

-- hidden orders are taken in a study of version 2
abbrev pub takes_hidden_orders : Members → Bool
takes_hidden_orders t = natural_at (codes "version") t == 2

-- what a run starts from
abbrev pub opening_of : Members → List (List SeriesRow) → Opening
opening_of t tables = record {
  start = start_of t;
  close = close_of t;
  limit = limit_of t;
  key = key_of t;
  groups = latencies_of t;
  exchange_group = natural_at (codes "group") (exchange_of t);
  exchange_delay = natural_at (codes "delay") (exchange_of t);
  stocks = stock_rules_of t;
  series = series_of t tables;
  dated = changes_of t;
  hidden = takes_hidden_orders t;
  traders = traders_of t;
}

-- each how many events a run keeps a copy of itself; 10,000 where it is left out
abbrev pub stride_of : Members → ℕ
stride_of t = natural_or (pos 10000) (codes "stride") t

-- No rule is broken, and these are the rows of each stock that the study's series file says, where it names one.
pub record IsAccepted (t : Members) (tables : List (List SeriesRow)) : Type 0 where
  pub series : Option (List ℕ)
  pub accepted : first_broken t series ≡ None
  pub rows : tables_of t series ≡ Ok tables
