-- Lists of interest.
use Rattle.std.specs.Prelude.{◌≤◌, ◌<◌, List, [], ◌∷◌, All, length}
use Rattle.std.specs.List.{AllByRecursion}
use Rattle.market_types.specs.Limits.{highest_price}
use Rattle.reopen_cross.specs.declared.cross.Interest.{Interest}

-- each reference is below all that follow it
abbrev pub IsRising : List Interest → Type 0
IsRising [] = Unit {0}
IsRising (x ∷ os) = AllByRecursion (λ (o : Interest). x.reference < o.reference) os × IsRising os

-- At most 32,768 orders with rising references, each with 1 to 999,999 open shares at a price.
pub record AreInterests (list : List Interest) : Type 0 where
  pub few : length list ≤ 32768
  pub rising : IsRising list
  pub some : All (λ (o : Interest). 1 ≤ o.left) list
  pub small : All (λ (o : Interest). o.left ≤ 999999) list
  pub priced : All (λ (o : Interest). 1 ≤ o.price) list
  pub within : All (λ (o : Interest). o.price ≤ highest_price) list
