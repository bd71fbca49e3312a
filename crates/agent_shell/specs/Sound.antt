-- What holds of each trader.
use Rattle.std.specs.Prelude.{◌≤◌, All, length}
use Rattle.market_types.specs.Limits.{most_traders}
use Rattle.agent_shell.specs.Trader.{Trader}
use Rattle.agent_shell.specs.Own.{most_own}
use Rattle.agent_shell.specs.Parameters.{IsSetting}
use Rattle.agent_shell.specs.Shell.{Orders}
use Rattle.agent_shell.specs.Tokens.{IsGiven}

-- The own list has at most 64 orders, and each has a token that the trader gave.
pub record IsOwn (o : Orders) : Type 0 where
  pub agent : o.agent ≤ most_traders
  pub given : All (λ e. IsGiven o.agent o.tokens e.0) o.own
  pub few : length o.own ≤ most_own

pub record IsTrader (t : Trader) : Type 0 where
  pub setting : IsSetting t.setting
  pub orders : IsOwn t.orders
