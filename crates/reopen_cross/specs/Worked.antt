-- Orders and a cross for worked examples.
use Rattle.std.specs.Prelude.{ℕ, true, false, List, [], ◌∷◌}
use Rattle.market_types.specs.declared.order.Side.TheVariants.{Buy, Sell}
use Rattle.reopen_cross.specs.declared.cross.Interest.{Interest}
use Rattle.reopen_cross.specs.declared.cross.Cross.{Cross}
use Rattle.reopen_cross.specs.declared.cross.Part.{Part}

-- a displayed order to buy so many shares
abbrev pub buy : ℕ → ℕ → ℕ → Interest
buy reference price left = record { reference = reference; side = Buy; price = price; left = left; shown = true }

-- one to sell
abbrev pub sell : ℕ → ℕ → ℕ → Interest
sell reference price left = record { reference = reference; side = Sell; price = price; left = left; shown = true }

-- the same, not displayed
abbrev pub hidden : Interest → Interest
hidden o = record o { shown = false }

abbrev pub two_buys : List Interest
two_buys = buy 1 100200 100 ∷ buy 2 100100 200 ∷ []

abbrev pub three_sells : List Interest
three_sells = sell 3 100000 150 ∷ sell 4 100100 100 ∷ sell 5 100200 100 ∷ []

-- where they cross
abbrev pub at_ten_one : Cross
at_ten_one = record { price = 100100; shares = 250; buys = 300; sells = 250; cut = 100199; below = 250; above = 100 }

-- a price at which all that there is to buy and to sell trades, with nothing beyond
abbrev pub even : ℕ → ℕ → Cross
even price shares = record { price = price; shares = shares; buys = shares; sells = shares; cut = 1999999900; below = shares; above = 0 }

abbrev pub bought : ℕ → ℕ → Part
bought reference shares = record { side = Buy; reference = reference; shares = shares }

abbrev pub sold : ℕ → ℕ → Part
sold reference shares = record { side = Sell; reference = reference; shares = shares }
