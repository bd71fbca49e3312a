-- A trader's parts as the plain record of all its data.
use Rattle.std.specs.Prelude.{ℕ, List}
use Rattle.agent_shell.specs.declared.parts.Parts.{Parts}
use Rattle.agent_shell.specs.Trader.{Trader}

abbrev pub trader_of : List ℕ → Parts → Trader
trader_of past p = record { setting = p.setting; orders = p.shell.orders; draws = p.draws; quotes = p.quotes; past = past }
