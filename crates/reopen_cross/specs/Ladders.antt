-- Orders by price.
use Rattle.std.specs.Prelude.{◌≡◌, ◌≤◌, ℕ, ◌+◌, List, length, filter, sum_by, slice_index_or, take, nat_le}
use Rattle.std.specs.List.Sorted.{IsPermutation}
use Rattle.market_types.specs.declared.order.Side.{Side}
use Rattle.market_types.specs.Sides.{is_same_side}
use Rattle.reopen_cross.specs.declared.cross.Interest.{Interest}

-- at each number the open shares of so many of the first orders
pub record AreSums (orders : List Interest) (sums : List ℕ) : Type 0 where
  pub long : length sums ≡ length orders + 1
  pub each : (k : ℕ) → k ≤ length orders → slice_index_or sums k 0 ≡ sum_by (λ (o : Interest). o.left) (take k orders)

-- the open shares of the orders at a price or below
abbrev pub up_to : ℕ → List Interest → ℕ
up_to p orders = sum_by (λ o. o.left) (filter (λ o. nat_le o.price p) orders)

-- of those at a price or above
abbrev pub from : ℕ → List Interest → ℕ
from p orders = sum_by (λ o. o.left) (filter (λ o. nat_le p o.price) orders)

-- the orders of a side in some order
abbrev pub AreOf : Side → List Interest → List Interest → Type 0
AreOf side list orders = IsPermutation (filter (λ o. is_same_side o.side side) list) orders
