-- The market of the examples is in the ranges of openings.
use Rattle.std.proofs.Common.{◌≡◌, ◌≢◌, ℕ, zero, suc, ◌-◌, ◌/◌, ◌<◌, ◌≤◌, List, [], ◌∷◌, length, refl, arith, lit≤, lit<, All, get_or, codes}
use Rattle.std.specs.Prelude.{AllPairs}
use Rattle.std.proofs.lemmas.List.{length-map}
use Rattle.std.proofs.lemmas.List.Elements.{All-cons, All-nil}
use Rattle.market_types.specs.Limits.{longest_delay, most_events, most_traders}
use Rattle.market_rules.specs.declared.changes.Dated.{Dated}
use Rattle.agent_shell.specs.declared.setting.TraderSetting.{TraderSetting}
use Rattle.exchange_agent.specs.declared.told.StockRules.{StockRules}
use Rattle.market_floor.specs.Opening.{IsOpening, IsTraderOf, IsStock, IsSeriesFor, IsDated, no_series}
use Rattle.market_floor.specs.OpeningWorked.{market_of, abm, ten_dollars}

one : {X : Type 0} (P : X → Type 0) (x : X) → P x → All P (x ∷ [])
one P x p = All-cons P x [] p (All-nil P)

one-pair : {X : Type 0} (R : X → X → Type 0) (x : X) → AllPairs R (x ∷ [])
one-pair R x i j d before within = absurd (omega arith)

few-steps : (close : ℕ) → close ≤ 65535001000 → (close - 1000) / 1000000 ≤ 65535
few-steps close h = omega arith

series-at : (close limit delay : ℕ) (ts : List TraderSetting) → close ≤ 65535001000 → (k : ℕ) → k < 1 → IsSeriesFor (market_of close limit delay ts) k (get_or (ten_dollars close ∷ []) k no_series)
series-at close limit delay ts h zero within = record {
  key = refl;
  stock = refl;
  start = refl;
  close = refl;
  rule = record {
    start = record { low = lit≤ tt; high = lit≤ tt };
    mean = record { low = lit≤ tt; high = lit≤ tt };
    pull = lit≤ tt;
    shock = lit≤ tt;
    every = lit≤ tt;
  };
  steps = few-steps close h;
}
series-at close limit delay ts h (suc k) within = absurd (omega arith)

pub market-opening : (close limit delay : ℕ) (ts : List TraderSetting) → 1000 ≤ close → close ≤ 65535001000 → delay ≤ longest_delay → 1 ≤ limit → limit ≤ most_events
    → 1 ≤ length ts → length ts ≤ most_traders → All (λ (s : TraderSetting). IsTraderOf (market_of close limit delay ts) s) ts
    → IsOpening (market_of close limit delay ts)
market-opening close limit delay ts low high short some few one-trader few-traders each = record {
  close = omega arith;
  start = low;
  some = some;
  limit = few;
  groups = record {
    some_group = lit≤ tt;
    few_groups = lit≤ tt;
    base_square = record { rows = refl; columns = one (λ (row : List ℕ). length row ≡ 1) (5 ∷ []) refl };
    jitter_square = record { rows = refl; columns = one (λ (row : List ℕ). length row ≡ 1) (0 ∷ []) refl };
    base_low = one (All (λ n. n ≤ longest_delay)) (5 ∷ []) (one (λ n. n ≤ longest_delay) 5 (lit≤ tt));
  };
  exchange_group = lit< tt;
  exchange_delay = short;
  market = record {
    some = lit≤ tt;
    few = lit≤ tt;
    distinct = one-pair (λ (a b : StockRules). a.symbol ≢ b.symbol) abm;
    traders = omega (arith, few-traders, length-map ts (λ (s : TraderSetting). s.cash));
  };
  stocks = one IsStock abm (record {
    symbol = record { text = codes "ABM"; read = refl };
    ticks = record { accepted = refl; modest = refl };
    fees = refl;
  });
  series = record { count = refl; each = series-at close limit delay ts high };
  dated = record { few = lit≤ tt; rising = refl; each = All-nil (λ (d : Dated). IsDated (market_of close limit delay ts) d) };
  some_trader = one-trader;
  traders = each;
}
