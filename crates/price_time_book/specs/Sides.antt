-- The two sides of a book.
use Rattle.std.specs.Prelude.{ℕ, Bool, nat_lt, nat_le, List, count_by}
use Rattle.market_types.specs.declared.order.Side.{Side}
use Rattle.market_types.specs.declared.order.Side.TheVariants.{Buy, Sell}
use Rattle.price_time_book.specs.declared.resting.Resting.{Resting}
pub use Rattle.market_types.specs.Sides.{opposite_of, is_same_side}

-- whether an order rests on this side
abbrev pub is_on : Side → Resting → Bool
is_on side o = is_same_side o.side side

-- whether a price is better than another for orders that rest on this side: a higher one to buy, a lower one to sell
abbrev pub is_better : Side → ℕ → ℕ → Bool
is_better Buy a b = nat_lt b a
is_better Sell a b = nat_lt a b

-- whether a price meets a limit: an order to buy pays at most its limit, an order to sell takes no less
abbrev pub is_within : Side → ℕ → ℕ → Bool
is_within Buy limit price = nat_le price limit
is_within Sell limit price = nat_le limit price

-- how many orders rest on this side
abbrev pub depth_of : Side → List Resting → ℕ
depth_of side book = count_by (is_on side) book
