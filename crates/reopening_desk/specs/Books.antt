-- The books of a reopening.
use Rattle.std.specs.Prelude.{◌≤◌, ℕ, List, All, length}
use Rattle.market_types.specs.Limits.{highest_price}
use Rattle.price_time_book.specs.declared.resting.Resting.{Resting}
use Rattle.price_time_book.specs.Orderly.{IsRising}
use Rattle.market_laws.specs.Small.{IsUpTo, most_resting, most_shares}

-- an order that rests, once so many were accepted: its reference is no greater, and it has 1 to 999,999 open shares at a price
pub record IsResting (accepted : ℕ) (o : Resting) : Type 0 where
  pub reference : o.reference ≤ accepted
  pub left : IsUpTo most_shares o.left
  pub price : IsUpTo highest_price o.price

-- at most 16,384 such orders, in order of their references
pub record AreResting (accepted : ℕ) (book : List Resting) : Type 0 where
  pub few : length book ≤ most_resting
  pub rising : IsRising book
  pub orders : All (IsResting accepted) book
