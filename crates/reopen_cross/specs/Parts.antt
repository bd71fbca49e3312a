-- Who trades at a price.
use Rattle.std.specs.Prelude.{ℕ, ◌-◌, ◌==◌, ◌&&◌, ◌||◌, not, min, nat_le, nat_lt, Bool, if◌then◌else◌, zero, suc, List, [], ◌∷◌, ◌++◌, length, Option, None, Some, filter}
use Rattle.std.specs.List.{best_of}
use Rattle.market_types.specs.declared.order.Side.{Side}
use Rattle.market_types.specs.declared.order.Side.TheVariants.{Buy, Sell}
use Rattle.market_types.specs.Sides.{is_same_side}
use Rattle.reopen_cross.specs.declared.cross.Interest.{Interest}
use Rattle.reopen_cross.specs.declared.cross.Cross.{Cross}
use Rattle.reopen_cross.specs.declared.cross.Part.{Part}

-- a side's better price: a higher one to buy, a lower one to sell
abbrev pub is_dearer : Side → ℕ → ℕ → Bool
is_dearer Buy a b = nat_lt b a
is_dearer Sell a b = nat_lt a b

-- an order comes before another by its price, and at one price by being displayed
abbrev pub is_ahead : Side → Interest → Interest → Bool
is_ahead side a b = is_dearer side a.price b.price || ((a.price == b.price) && (a.shown && not b.shown))

-- an order takes part at a price: one to buy at its own price and below, one to sell at its own and above
abbrev pub is_within : Side → ℕ → ℕ → Bool
is_within Buy p limit = nat_le p limit
is_within Sell p limit = nat_le limit p

-- it is of a side and takes part at a price
abbrev pub takes_part : Side → ℕ → Interest → Bool
takes_part side p o = is_same_side o.side side && is_within side p o.price

-- the order that is filled first: of those that no other is ahead of the earliest in the list
abbrev pub first_ahead : Side → List Interest → Option Interest
first_ahead side [] = None
first_ahead side (o ∷ os) = Some (best_of (is_ahead side) o os)

-- all but the order with a reference
abbrev pub others : ℕ → List Interest → List Interest
others reference os = filter (λ o. not (o.reference == reference)) os

-- what an order trades where so many shares are wanted
abbrev pub part_of : ℕ → Interest → Part
part_of wanted o = record { side = o.side; reference = o.reference; shares = min o.left wanted }

-- so many times the next order is filled, until no shares are wanted
abbrev pub filled : ℕ → Side → ℕ → List Interest → List Part
filled zero side wanted os = []
filled (suc n) side wanted os = elim (first_ahead side os) [
  | None ↦ []
  | Some o ↦ if wanted == 0 then [] else part_of wanted o ∷ filled n side (wanted - min o.left wanted) (others o.reference os)
]

-- what the orders of a side trade at a cross
abbrev pub parts_on : Side → List Interest → Cross → List Part
parts_on side list c = filled (length list) side c.shares (filter (takes_part side c.price) list)

-- what all orders trade: those to buy, then those to sell
abbrev pub parts_of : List Interest → Cross → List Part
parts_of list c = parts_on Buy list c ++ parts_on Sell list c
