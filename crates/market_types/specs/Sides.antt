-- Sides of orders.
use Rattle.std.specs.Prelude.{Bool, true, false}
use Rattle.market_types.specs.declared.order.Side.{Side}
use Rattle.market_types.specs.declared.order.Side.TheVariants.{Buy, Sell}

abbrev pub opposite_of : Side → Side
opposite_of Buy = Sell
opposite_of Sell = Buy

abbrev pub is_same_side : Side → Side → Bool
is_same_side Buy Buy = true
is_same_side Buy Sell = false
is_same_side Sell Buy = false
is_same_side Sell Sell = true
