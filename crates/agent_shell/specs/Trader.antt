-- All data of a trader.
use Rattle.std.specs.Prelude.{◌<◌, ◌≤◌, ◌^◌, ℕ, List, [], length}
use Rattle.market_types.specs.declared.account.TraderTold.{TraderTold}
use Rattle.draw_streams.specs.Draw.{draw_of}
use Rattle.agent_shell.specs.declared.setting.TraderSetting.{TraderSetting}
use Rattle.market_rules.specs.declared.edit.Param.{Param}
use Rattle.agent_shell.specs.Parameters.{setting_with}
use Rattle.agent_shell.specs.Shell.{Orders, orders_at_opening}
use Rattle.agent_shell.specs.Sight.{Sight}

-- A trader's parameters; its number, tokens, account and own list; how many draws it made and how many quotes it heard; and the
-- middles of quotes that momentum remembers, the latest last.
pub record Trader : Type 0 where
  pub setting : TraderSetting
  pub orders : Orders
  pub draws : ℕ
  pub quotes : ℕ
  pub past : List ℕ

-- at the opening no draw is made
abbrev pub trader_at_opening : ℕ → TraderSetting → Trader
trader_at_opening agent setting =
    record { setting = setting; orders = orders_at_opening agent setting.cash; draws = 0; quotes = 0; past = [] }

-- the trader with one parameter replaced
abbrev pub trader_with : Param → ℕ → Trader → Trader
trader_with name value t = record t { setting = setting_with name value t.setting }

-- the word of a trader's draw at a place: each trader draws from the stream of its own number
abbrev pub trader_word : Sight → Trader → ℕ → ℕ
trader_word v t place = draw_of v.key t.orders.agent place

-- what a trader tells of itself
abbrev pub told_of : Trader → TraderTold
told_of t = record {
  tokens = t.orders.tokens;
  draws = t.draws;
  account = t.orders.account;
  live = length t.orders.own;
  quotes = t.quotes;
}

-- The counts of a trader are far from the ends of their numbers.
pub record IsReady (t : Trader) : Type 0 where
  pub tokens : t.orders.tokens ≤ 900000000
  pub draws : t.draws < 2 ^ 62
  pub quotes : t.quotes < 4000000000
