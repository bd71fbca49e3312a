-- How many shares there are at a price.
use Rattle.std.specs.Prelude.{ℕ, ◌+◌, ◌-◌, ◌==◌, ◌&&◌, ◌||◌, min, nat_lt, Bool, List, filter, sum_by}
use Rattle.market_types.specs.declared.order.Side.{Side}
use Rattle.reopen_cross.specs.declared.cross.Interest.{Interest}
use Rattle.reopen_cross.specs.declared.tallies.Tally.{Tally}
use Rattle.reopen_cross.specs.Cross.{buys, sells}
use Rattle.reopen_cross.specs.Parts.{takes_part}

-- the open shares of the orders of a side that take part at a price
abbrev pub shares_at : Side → List Interest → ℕ → ℕ
shares_at side list p = sum_by (λ o. o.left) (filter (takes_part side p) list)

-- how many there are to buy and to sell
abbrev pub tally_of : List Interest → ℕ → Tally
tally_of list p = record { price = p; buys = buys list p; sells = sells list p }

-- what would trade
abbrev pub executed_by : Tally → ℕ
executed_by t = min t.buys t.sells

-- by how many one side has more
abbrev pub surplus_by : Tally → ℕ
surplus_by t = (t.buys - t.sells) + (t.sells - t.buys)

-- one price is better than another
abbrev pub beats : Tally → Tally → Bool
beats a b =
    nat_lt (executed_by b) (executed_by a)
    || ((executed_by b == executed_by a)
    && (nat_lt (surplus_by a) (surplus_by b) || ((surplus_by a == surplus_by b) && nat_lt a.price b.price)))
