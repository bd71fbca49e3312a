-- What a trader sees besides the messages that it is sent.
use Rattle.std.specs.Prelude.{ℕ, List}
use Rattle.market_types.specs.declared.order.Symbol.{Symbol}
use Rattle.market_rules.specs.declared.bands.Band.{Band}
use Rattle.market_rules.specs.declared.view.View.{View}

pub record Sight : Type 0 where
  pub time : ℕ
  pub key : List ℕ
  pub symbol : Symbol
  pub value : ℕ
  pub bands : List Band

-- what a view shows
abbrev pub sight_of : View → Sight
sight_of v = record { time = v.time; key = v.key.now; symbol = v.symbol; value = v.value; bands = v.ticks.now }
