-- Rules for worked examples.
use Rattle.std.specs.Prelude.{ℕ, pos, negsuc, List, [], ◌∷◌}
use Rattle.market_rules.specs.declared.bands.Band.{Band}
use Rattle.market_rules.specs.declared.changes.Dated.{Dated}
use Rattle.market_rules.specs.declared.changes.Change.TheVariants.{Halt}
use Rattle.market_rules.specs.declared.fees.FeeTable.{FeeTable}

-- a band from this price on with this tick
abbrev pub band : ℕ → ℕ → Band
band from tick = record { from = from; tick = tick }

-- a cent up to a hundred dollars, and five cents from there on
abbrev pub two_bands : List Band
two_bands = band 0 100 ∷ band 1000000 500 ∷ []

-- the second band starts at no multiple of the first one's tick
abbrev pub uneven_bands : List Band
uneven_bands = band 0 300 ∷ band 1000 500 ∷ []

-- a halt of the first stock at this time
abbrev pub halt_at : ℕ → Dated
halt_at time = record { time = time; stock = 0; change = Halt }

-- two halts at one time, and one later
abbrev pub three_halts : List Dated
three_halts = halt_at 5 ∷ halt_at 5 ∷ halt_at 7 ∷ []

-- a rebate of 20 for what rested, a charge of 30 for what came
abbrev pub rebate_and_charge : FeeTable
rebate_and_charge = record { add = negsuc 19; take = pos 30 }
