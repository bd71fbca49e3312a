-- Openings for worked examples: one stock whose value stays at 10 dollars, a latency of 5 within one group, and the zero key.
use Rattle.std.specs.Prelude.{false, ℕ, pos, negsuc, List, [], ◌∷◌, replicate, codes}
use Rattle.fundamental_series.specs.Made.{Made, by_rule}
use Rattle.agent_shell.specs.declared.setting.Kind.{Kind}
use Rattle.agent_shell.specs.declared.setting.Kind.TheVariants.{Watcher}
use Rattle.agent_shell.specs.declared.setting.TraderSetting.{TraderSetting}
use Rattle.exchange_agent.specs.declared.told.StockRules.{StockRules}
use Rattle.market_floor.specs.declared.opening.Opening.{Opening}

-- a trader of a kind that first wakes at a time, and then every million nanoseconds
abbrev pub trader : Kind → ℕ → TraderSetting
trader kind first = record { kind = kind; group = 0; stock = 0; first = first; every = 1000000; wobble = 0; delay = 0; cash = pos 0 }

abbrev pub watcher : ℕ → TraderSetting
watcher first = trader Watcher first

-- ticks of a cent, a rebate of 20 and a fee of 30 millionths a share
abbrev pub abm : StockRules
abm = record {
  symbol = record { 0 = codes "ABM     " };
  ticks = record { from = 0; tick = 100 } ∷ [];
  fees = record { add = negsuc 19; take = pos 30 };
}

abbrev pub ten_dollars : ℕ → Made
ten_dollars close = by_rule (record {
  key = replicate 32 0;
  stock = 0;
  rule = record { start = 100000; mean = 100000; pull = 0; shock = 0; every = 1000000 };
  start = 1000;
  close = close;
})

-- a market that opens at 1000, of at most so many events, and of an exchange that computes for so long
abbrev pub market_of : ℕ → ℕ → ℕ → List TraderSetting → Opening
market_of close limit delay traders = record {
  start = 1000;
  close = close;
  limit = limit;
  key = replicate 32 0;
  groups = record { base = (5 ∷ []) ∷ []; jitter = (0 ∷ []) ∷ [] };
  exchange_group = 0;
  exchange_delay = delay;
  stocks = abm ∷ [];
  series = ten_dollars close ∷ [];
  dated = [];
  hidden = false;
  traders = traders;
}

-- the same of at most a hundred events
abbrev pub market : ℕ → ℕ → List TraderSetting → Opening
market close delay traders = market_of close 100 delay traders
