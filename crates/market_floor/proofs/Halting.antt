-- The market of the worked examples is an opening.
use Rattle.std.proofs.Common.{◌≤◌, ◌<◌, ℕ, zero, suc, List, [], ◌∷◌, length, All, arith, refl}
use Rattle.std.specs.Prelude.{slice_index_or}
use Rattle.std.proofs.lemmas.List.Elements.{All-cons, All-nil, All-weaker}
use Rattle.market_types.specs.Limits.{longest_delay, most_events, most_traders}
use Rattle.market_rules.specs.declared.changes.Dated.{Dated}
use Rattle.market_rules.specs.Worked.{halt_at}
use Rattle.agent_shell.specs.declared.setting.TraderSetting.{TraderSetting}
use Rattle.market_floor.specs.declared.opening.Opening.{Opening}
use Rattle.market_floor.specs.Opening.{IsDated, IsOpening, IsSeriesFor, IsTraderOf, no_series}
use Rattle.market_floor.specs.OpeningWorked.{market_of, ten_dollars, watcher}
use Rattle.market_floor.specs.Worked.{halting}

-- what the law of the example's markets says
abbrev pub MarketsOpen : Type 0
MarketsOpen = (close limit delay : ℕ) (traders : List TraderSetting) →
    1000 ≤ close → close ≤ 65535001000 → delay ≤ longest_delay → 1 ≤ limit → limit ≤ most_events →
    1 ≤ length traders → length traders ≤ most_traders → All (λ s. IsTraderOf (market_of close limit delay traders) s) traders →
    IsOpening (market_of close limit delay traders)

-- the same market without changes
abbrev calm : Opening
calm = market_of 2000 100 7 (watcher 1000 ∷ [])

calm-trader : IsTraderOf calm (watcher 1000)
calm-trader = record {
  setting = record { kind = tt; every = record { not_below = omega arith; not_above = omega arith }; delay = omega arith };
  group = omega arith;
  stock = omega arith;
  start = omega arith;
  first = omega arith;
  wobble = omega arith;
}

calm-opens : MarketsOpen → IsOpening calm
calm-opens law =
    law 2000 100 7 (watcher 1000 ∷ []) (omega arith) (omega arith) (omega arith) (omega arith) (omega arith) (omega arith) (omega arith)
    (All-cons (λ s. IsTraderOf calm s) (watcher 1000) [] calm-trader (All-nil (λ s. IsTraderOf calm s)))

each-series : ((k : ℕ) → k < 1 → IsSeriesFor calm k (slice_index_or (ten_dollars 2000 ∷ []) k no_series)) → (k : ℕ) → k < 1 → IsSeriesFor halting k (slice_index_or (ten_dollars 2000 ∷ []) k no_series)
each-series h zero lt = let q = h 0 lt in record { key = q.key; stock = q.stock; start = q.start; close = q.close; rule = q.rule; steps = q.steps }
each-series h (suc k) lt = absurd (omega (arith, lt))

halt-dated : (time : ℕ) → 1000 ≤ time → time ≤ 2000 → IsDated halting (halt_at time)
halt-dated time low high = record { start = low; close = high; stock = omega arith; change = omega arith }

pub halting-opens : MarketsOpen → IsOpening halting
halting-opens law =
    let h = calm-opens law in
    record {
      close = h.close;
      start = h.start;
      some = h.some;
      limit = h.limit;
      groups = h.groups;
      exchange_group = h.exchange_group;
      exchange_delay = h.exchange_delay;
      market = h.market;
      stocks = h.stocks;
      series = record { count = h.series.count; each = each-series h.series.each };
      dated = record {
        few = omega arith;
        rising = refl;
        each = All-cons (λ (d : Dated). IsDated halting d) (halt_at 1400) (halt_at 1600 ∷ []) (halt-dated 1400 (omega arith) (omega arith))
            (All-cons (λ (d : Dated). IsDated halting d) (halt_at 1600) [] (halt-dated 1600 (omega arith) (omega arith)) (All-nil (λ (d : Dated). IsDated halting d)));
      };
      some_trader = h.some_trader;
      traders = All-weaker (λ s. IsTraderOf calm s) (λ s. IsTraderOf halting s)
          (λ s q. record { setting = q.setting; group = q.group; stock = q.stock; start = q.start; first = q.first; wobble = q.wobble }) (watcher 1000 ∷ []) h.traders;
    }
