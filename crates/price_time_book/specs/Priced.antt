-- Words for a book of which each order is shown: there price and time alone decide.
use Rattle.std.specs.Prelude.{ℕ, ◌&&◌, ◌==◌, List, [], ◌∷◌, Option, Some, None, option_map, filter, sum_by}
use Rattle.std.specs.List.{best_of}
use Rattle.market_types.specs.declared.order.Side.{Side}
use Rattle.price_time_book.specs.declared.resting.Best.{Best}
use Rattle.price_time_book.specs.declared.resting.Resting.{Resting}
use Rattle.price_time_book.specs.Sides.{is_on, is_better}

-- of orders on one side that with the best price, and of those with one price the earliest
abbrev pub first_priced : Side → List Resting → Option Resting
first_priced side [] = None
first_priced side (o ∷ book) = Some (best_of (λ a b. is_better side a.price b.price) o book)

-- the open shares of a side at one price
abbrev pub shares_priced : Side → ℕ → List Resting → ℕ
shares_priced side price book = sum_by (λ o. o.left) (filter (λ o. is_on side o && (o.price == price)) book)

-- the best price of a side and the open shares at it
abbrev pub best_priced : Side → List Resting → Option Best
best_priced side book = option_map (λ o. record { price = o.price; shares = shares_priced side o.price book }) (first_priced side (filter (is_on side) book))
