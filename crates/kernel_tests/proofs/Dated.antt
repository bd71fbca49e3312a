-- Lemmas on an opening with dated changes.
use Rattle.std.proofs.Common.{ℕ, ◌<◌, ◌≤◌, List, [], length, refl, lit≤}
use Rattle.std.specs.Prelude.{slice_index_or}
use Rattle.std.proofs.lemmas.List.Elements.{All-cons, All-nil, All-weaker}
use Rattle.market_rules.specs.declared.changes.Dated.{Dated}
use Rattle.fundamental_series.specs.Made.{Made, by_rows, by_rule}
use Rattle.agent_shell.specs.declared.setting.TraderSetting.{TraderSetting}
use Rattle.market_floor.specs.declared.opening.Opening.{Opening}
use Rattle.market_floor.specs.Opening.{AreDated, IsDated, IsOpening, IsSeriesFor, IsTraderOf, no_series}
use Rattle.kernel_core.specs.EditsWorked.{later_ticks}

-- the series of an opening are those of the same opening with other dated changes
series-kept : (o : Opening) (ds : List Dated) (k : ℕ) (m : Made) → IsSeriesFor o k m → IsSeriesFor (record o { dated = ds }) k m
series-kept o ds k (by_rule m) q = record { key = q.key; stock = q.stock; start = q.start; close = q.close; rule = q.rule; steps = q.steps }
series-kept o ds k (by_rows rows) q = record { rows = q.rows; first = q.first }

-- an opening with other dated changes in their ranges is one
pub dated-opens : (o : Opening) (ds : List Dated) → IsOpening o → AreDated (record o { dated = ds }) → IsOpening (record o { dated = ds })
dated-opens o ds h d = record {
  close = h.close;
  start = h.start;
  some = h.some;
  limit = h.limit;
  groups = h.groups;
  exchange_group = h.exchange_group;
  exchange_delay = h.exchange_delay;
  market = h.market;
  stocks = h.stocks;
  series = record { count = h.series.count; each = λ k within. series-kept o ds k (slice_index_or o.series k no_series) (h.series.each k within) };
  dated = d;
  some_trader = h.some_trader;
  traders = All-weaker (λ (s : TraderSetting). IsTraderOf o s) (λ (s : TraderSetting). IsTraderOf (record o { dated = ds }) s)
      (λ s q. record { setting = q.setting; group = q.group; stock = q.stock; start = q.start; first = q.first; wobble = q.wobble }) o.traders h.traders;
}

-- ticks that are dated within the hours of a market that has a stock
pub later-ticks-dated : (o : Opening) → o.start ≤ 1500 → 1500 ≤ o.close → 0 < length o.stocks → AreDated (record o { dated = later_ticks })
later-ticks-dated o start close some = record {
  few = lit≤ tt;
  rising = refl;
  each = All-cons (λ (d : Dated). IsDated (record o { dated = later_ticks }) d) _ []
      (record { start = start; close = close; stock = some; change = record { accepted = refl; modest = refl } })
      (All-nil (λ (d : Dated). IsDated (record o { dated = later_ticks }) d));
}
