-- A trader's own account.
use Rattle.std.specs.Prelude.{ℕ, ◌*◌, ℤ, pos, ◌+ℤ◌, ◌-ℤ◌}
use Rattle.market_types.specs.declared.account.Account.{Account}
use Rattle.market_types.specs.declared.order.Side.{Side}
use Rattle.market_types.specs.declared.order.Side.TheVariants.{Buy, Sell}

-- what so many shares cost at a price with four implied decimals, in millionths of a dollar
abbrev pub cost_of : ℕ → ℕ → ℤ
cost_of price shares = pos (100 * price * shares)

-- The account after so many shares were traded at a price: a buy adds the shares and pays for them, a sell does the reverse.
abbrev pub traded : Side → ℕ → ℕ → Account → Account
traded Buy price shares a = record { position = a.position +ℤ pos shares; cash = a.cash -ℤ cost_of price shares }
traded Sell price shares a = record { position = a.position -ℤ pos shares; cash = a.cash +ℤ cost_of price shares }
