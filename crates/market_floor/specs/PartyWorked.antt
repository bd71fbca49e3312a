-- A party for worked examples.
use Rattle.std.specs.Prelude.{Bool}
use Rattle.market_types.specs.declared.message.Body.{Body}
use Rattle.agent_shell.specs.declared.setting.Kind.TheVariants.{Maker}
use Rattle.agent_shell.specs.Decide.{Decided}
use Rattle.agent_shell.specs.Worked.{one_buy, opened, ten_dollars}
use Rattle.market_floor.specs.Party.{PartyState, reacted}

-- a maker with one open order, its first, which buys 100 shares
abbrev pub maker : Bool → PartyState
maker silent = record { trader = record (opened 37 (Maker 10 150 100 1 7)) { orders = one_buy }; silent = silent }

abbrev pub met : Bool → Body → Decided
met silent body = reacted ten_dollars (maker silent) body
