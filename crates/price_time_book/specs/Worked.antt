-- Orders and fills for worked examples.
use Rattle.std.specs.Prelude.{ℕ, true, false, List, [], ◌∷◌, codes}
use Rattle.market_types.specs.declared.order.Side.TheVariants.{Buy, Sell}
use Rattle.price_time_book.specs.declared.resting.Fill.{Fill}
use Rattle.price_time_book.specs.declared.resting.Resting.{Resting}
use Rattle.price_time_book.specs.Matched.{Matching, matched}

-- an order to sell, of which so many shares of 300 are open
abbrev pub sell : ℕ → ℕ → ℕ → ℕ → Resting
sell reference agent price left = record {
  reference = reference;
  agent = agent;
  token = record { 0 = codes "A             " };
  side = Sell;
  price = price;
  intended = 300;
  left = left;
  tif = 99999;
  shown = true;
}

-- the order that arrives first and asks 10.01 dollars, of which so many shares are open
abbrev pub dear : ℕ → Resting
dear left = sell 1 2 100100 left

-- the first of two that ask 10.00 dollars
abbrev pub early : ℕ → Resting
early left = sell 2 2 100000 left

-- the second of them
abbrev pub late : ℕ → Resting
late left = sell 3 3 100000 left

-- 100 shares at 10.01 dollars, then 200 and 300 at 10.00
abbrev pub three_sells : List Resting
three_sells = dear 100 ∷ early 200 ∷ late 300 ∷ []

-- an order that isn't shown
abbrev pub veiled : Resting → Resting
veiled o = record o { shown = false }

-- the same, but that the first of the two at 10.00 isn't shown
abbrev pub veiled_sells : List Resting
veiled_sells = dear 100 ∷ veiled (early 200) ∷ late 300 ∷ []

-- an order to buy so many shares at no more than a price meets them
abbrev pub bought : ℕ → ℕ → Matching
bought limit shares = matched three_sells Buy limit shares

-- so many shares that an order gives
abbrev pub given : Resting → ℕ → Fill
given o shares = record { resting = o; shares = shares }
