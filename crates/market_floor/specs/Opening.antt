-- What a run starts from: the ranges that a study's rules give.
use Rattle.std.specs.Prelude.{◌≡◌, ◌<◌, ◌≤◌, ◌-◌, ◌/◌, ℕ, ℤ, true, None, List, [], length, map, slice_index_or, All, Ok}
use Rattle.market_types.specs.Limits.{longest_delay, last_time, most_events}
use Rattle.market_types.specs.Readers.{symbol_of}
use Rattle.market_types.specs.declared.order.Symbol.{Symbol}
use Rattle.market_rules.specs.declared.changes.Dated.{Dated}
use Rattle.market_rules.specs.declared.changes.Change.{Change}
use Rattle.market_rules.specs.declared.changes.Change.TheVariants as change
use Rattle.market_rules.specs.declared.bands.Band.{Band}
use Rattle.market_rules.specs.Changes.{dates_refusal}
use Rattle.market_rules.specs.EditRanges.{is_modest_table, is_modest_fee}
use Rattle.market_rules.specs.Refusals.{table_refusal}
use Rattle.fundamental_series.specs.Made.{Made, RuleMade, by_rule, by_rows, first_time}
use Rattle.fundamental_series.specs.Ranges.{IsInRange as IsSeriesRule, AreRows}
use Rattle.fundamental_series.specs.declared.rule.SeriesRow.{SeriesRow}
use Rattle.latency_model.specs.Ranges.{IsInRange as AreLatencies}
use Rattle.latency_model.specs.Tables.{group_count}
use Rattle.exchange_agent.specs.declared.told.StockRules.{StockRules}
use Rattle.exchange_agent.specs.Open.{IsOpening as IsMarket}
use Rattle.agent_shell.specs.Parameters.{IsSetting}
use Rattle.agent_shell.specs.declared.setting.TraderSetting.{TraderSetting}
use Rattle.market_floor.specs.declared.opening.Opening.{Opening}

-- a table of 1 to 16 bands in order, each from a multiple of its tick on
pub record IsTickTable (bands : List Band) : Type 0 where
  pub accepted : table_refusal bands ≡ None
  pub modest : is_modest_table bands ≡ true

-- a symbol is a name that is read, with spaces on its right
pub record IsSymbol (symbol : Symbol) : Type 0 where
  pub text : List ℕ
  pub read : symbol_of text ≡ Ok symbol

-- a stock's symbol, ticks and fees
pub record IsStock (r : StockRules) : Type 0 where
  pub symbol : IsSymbol r.symbol
  pub ticks : IsTickTable r.ticks
  pub fees : is_modest_fee r.fees ≡ true

-- a rule for the stock of a number, under the opening's key and over its hours, in at most 65,535 steps
pub record IsRuleFor (o : Opening) (k : ℕ) (m : RuleMade) : Type 0 where
  pub key : m.key ≡ o.key
  pub stock : m.stock ≡ k
  pub start : m.start ≡ o.start
  pub close : m.close ≡ o.close
  pub rule : IsSeriesRule m.rule
  pub steps : (o.close - o.start) / m.rule.every ≤ 65535

-- rows of which the first is not later than the start
pub record AreRowsFor (o : Opening) (xs : List SeriesRow) : Type 0 where
  pub rows : AreRows xs
  pub first : first_time xs ≤ o.start

-- a series is that of the stock of a number
abbrev pub IsSeriesFor : Opening → ℕ → Made → Type 0
IsSeriesFor o k (by_rule m) = IsRuleFor o k m
IsSeriesFor o k (by_rows rows) = AreRowsFor o rows

-- the series of no stock
abbrev pub no_series : Made
no_series = by_rows []

-- one series for each stock, in the order of the stocks
pub record AreSeries (o : Opening) : Type 0 where
  pub count : length o.series ≡ length o.stocks
  pub each : (k : ℕ) → k < length o.series → IsSeriesFor o k (slice_index_or o.series k no_series)

-- the new ticks or fees of a change
abbrev pub IsChange : Change → Type 0
IsChange (change.Tick bands) = IsTickTable bands
IsChange (change.Fee fees) = is_modest_fee fees ≡ true
IsChange change.Halt = 0 ≤ 0
IsChange change.Resume = 0 ≤ 0

-- a change within the hours, of a stock that there is
pub record IsDated (o : Opening) (d : Dated) : Type 0 where
  pub start : o.start ≤ d.time
  pub close : d.time ≤ o.close
  pub stock : d.stock < length o.stocks
  pub change : IsChange d.change

-- at most 1,024 changes, none dated before the one before it
pub record AreDated (o : Opening) : Type 0 where
  pub few : length o.dated ≤ 1024
  pub rising : dates_refusal o.dated ≡ None
  pub each : All (λ (d : Dated). IsDated o d) o.dated

-- a trader's parameters; it first wakes from the start on
pub record IsTraderOf (o : Opening) (s : TraderSetting) : Type 0 where
  pub setting : IsSetting s
  pub group : s.group < group_count o.groups
  pub stock : s.stock < length o.stocks
  pub start : o.start ≤ s.first
  pub first : s.first ≤ last_time
  pub wobble : s.wobble ≤ 4294967295

-- the cash of each trader at the opening
abbrev pub cash_of : Opening → List ℤ
cash_of o = map (λ (s : TraderSetting). s.cash) o.traders

-- an opening is in the ranges that a study's rules give; there are 1 to 16 stocks with distinct symbols and 1 to 511 traders
pub record IsOpening (o : Opening) : Type 0 where
  pub close : o.close ≤ last_time
  pub start : o.start ≤ o.close
  pub some : 1 ≤ o.limit
  pub limit : o.limit ≤ most_events
  pub groups : AreLatencies o.groups
  pub exchange_group : o.exchange_group < group_count o.groups
  pub exchange_delay : o.exchange_delay ≤ longest_delay
  pub market : IsMarket o.stocks (cash_of o)
  pub stocks : All IsStock o.stocks
  pub series : AreSeries o
  pub dated : AreDated o
  pub some_trader : 1 ≤ length o.traders
  pub traders : All (λ (s : TraderSetting). IsTraderOf o s) o.traders
