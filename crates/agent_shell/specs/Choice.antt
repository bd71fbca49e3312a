-- What a trader makes of a quote of a stock that trades.
use Rattle.std.specs.Prelude.{ℕ, ◌/◌, ◌+◌, ◌==◌, not, ◌&&◌, Bool, ℤ, List, [], ◌∷◌, Option, None, Some}
use Rattle.market_types.specs.declared.message.Quote.{Quote}
use Rattle.market_types.specs.declared.order.Side.{Side}
use Rattle.agent_shell.specs.declared.wish.Wish.{Wish}

-- How many draws it makes, which middles it remembers, and the orders that it calls for, in order.
pub record Choice : Type 0 where
  pub draws : ℕ
  pub past : List ℕ
  pub wishes : List Wish

-- an order for the day, which leaves so many nanoseconds after the end of the computation
abbrev pub day_order : Side → ℕ → ℤ → ℕ → Wish
day_order side shares price extra = record { side = side; shares = shares; price = price; tif = 99999; extra = extra }

-- one order or none as a list
abbrev pub wishes_of : Option Wish → List Wish
wishes_of None = []
wishes_of (Some w) = w ∷ []

-- whether both sides of a quote are there: a side with price 0 is absent
abbrev pub has_both : Quote → Bool
has_both q = not (q.bid == 0) && not (q.ask == 0)

-- the middle of both sides, rounded down
abbrev pub middle : Quote → ℕ
middle q = (q.bid + q.ask) / 2
