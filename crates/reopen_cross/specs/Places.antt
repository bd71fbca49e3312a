-- In which order the orders of a side are filled.
use Rattle.std.specs.Prelude.{ℕ, ◌+◌, ◌-◌, ◌*◌, ◌==◌, min, Bool, true, false, if◌then◌else◌, List, [], ◌∷◌}
use Rattle.market_types.specs.declared.order.Side.{Side}
use Rattle.market_types.specs.declared.order.Side.TheVariants.{Buy, Sell}
use Rattle.reopen_cross.specs.declared.cross.Interest.{Interest}
use Rattle.reopen_cross.specs.declared.cross.Part.{Part}
use Rattle.reopen_cross.specs.Parts.{part_of}

-- what isn't displayed comes later at its price
abbrev pub lateness : Bool → ℕ
lateness true = 0
lateness false = 1

-- a number that is lower for what is filled earlier: by the better price, and at one price by being displayed
abbrev pub ordinal : Side → Interest → ℕ
ordinal Buy o = 2 * (4294967295 - o.price) + lateness o.shown
ordinal Sell o = 2 * o.price + lateness o.shown

-- orders are filled one after another until no shares are wanted
abbrev pub filled_along : ℕ → List Interest → List Part
filled_along wanted [] = []
filled_along wanted (o ∷ os) = if wanted == 0 then [] else part_of wanted o ∷ filled_along (wanted - min o.left wanted) os
