-- What a maker makes of a quote.
use Rattle.std.specs.Prelude.{ℕ, zero, suc, ◌+◌, ◌*◌, ◌==◌, ℤ, pos, ◌+ℤ◌, ◌-ℤ◌, if◌then◌else◌, List, [], ◌∷◌}
use Rattle.market_types.specs.declared.message.Quote.{Quote}
use Rattle.market_types.specs.declared.order.Side.TheVariants.{Buy, Sell}
use Rattle.market_rules.specs.Nearest.{down_of, up_of}
use Rattle.market_rules.specs.declared.bands.Band.{Band}
use Rattle.agent_shell.specs.declared.setting.Levels.{Levels}
use Rattle.agent_shell.specs.declared.wish.Wish.{Wish}
use Rattle.agent_shell.specs.Choice.{Choice, day_order, has_both, middle}
use Rattle.agent_shell.specs.Sight.{Sight}
use Rattle.agent_shell.specs.Trader.{Trader}

-- its centre: the middle where both sides are there, else the last price where there is one, else the value
abbrev pub centre_of : Quote → ℕ → ℕ
centre_of q value = if has_both q then middle q else (if q.last == 0 then value else q.last)

-- how far level i is from the centre
abbrev pub distance_of : Levels → ℕ → ℕ
distance_of m i = m.half + i * m.step

-- the prices of level i before they are rounded to allowed ones
abbrev pub below_centre : Levels → ℕ → ℕ → ℤ
below_centre m centre i = pos centre -ℤ pos (distance_of m i)

abbrev pub above_centre : Levels → ℕ → ℕ → ℤ
above_centre m centre i = pos centre +ℤ pos (distance_of m i)

-- the two orders of level i
abbrev pub buy_at : Levels → List Band → ℕ → ℕ → Wish
buy_at m bands centre i = day_order Buy m.size (down_of bands (below_centre m centre i)) (i * m.pause)

abbrev pub sell_at : Levels → List Band → ℕ → ℕ → Wish
sell_at m bands centre i = day_order Sell m.size (up_of bands (above_centre m centre i)) (i * m.pause)

-- so many levels from level i on, each with its buy and then its sell
abbrev pub levels_from : Levels → List Band → ℕ → ℕ → ℕ → List Wish
levels_from m bands centre i zero = []
levels_from m bands centre i (suc n) = buy_at m bands centre i ∷ sell_at m bands centre i ∷ levels_from m bands centre (suc i) n

abbrev pub maker_choice : Sight → Trader → Quote → ℕ → Levels → Choice
maker_choice v t q levels m = record { draws = 0; past = t.past; wishes = levels_from m v.bands (centre_of q v.value) 0 levels }
