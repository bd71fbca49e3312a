-- Which resting order comes first. A book is the list of its orders in order of arrival, each shown or hidden.
use Rattle.std.specs.Prelude.{ℕ, Bool, not, ◌&&◌, ◌||◌, ◌==◌, List, [], ◌∷◌, Option, Some, None, option_map, filter, count_by, sum_by}
use Rattle.std.specs.List.{best_of}
use Rattle.market_types.specs.declared.order.Side.{Side}
use Rattle.price_time_book.specs.declared.resting.Best.{Best}
use Rattle.price_time_book.specs.declared.resting.Resting.{Resting}
use Rattle.price_time_book.specs.Sides.{opposite_of, is_on, is_better, is_within}

-- whether an order of a side comes before another that arrived no later: at a better price, or shown at one price with a hidden one
abbrev pub beats : Side → Resting → Resting → Bool
beats side a b = is_better side a.price b.price || ((a.price == b.price) && (a.shown && not b.shown))

-- of orders on one side those with the best price, of those the shown ones, or the hidden ones where none is shown, and of those
-- the earliest
abbrev pub first_best : Side → List Resting → Option Resting
first_best side [] = None
first_best side (o ∷ book) = Some (best_of (beats side) o book)

-- whether a resting order crosses an incoming order of this side: it rests on the other side at a price within the limit
abbrev pub crosses : Side → ℕ → Resting → Bool
crosses side limit o = is_on (opposite_of side) o && is_within side limit o.price

-- how many orders cross an incoming order of this side and limit
abbrev pub crossing_of : Side → ℕ → List Resting → ℕ
crossing_of side limit book = count_by (crosses side limit) book

-- the order that an incoming order of this side meets next: among those that cross with the best price the earliest shown one, and
-- where none of these is shown the earliest
abbrev pub next_of : List Resting → Side → ℕ → Option Resting
next_of book side limit = first_best (opposite_of side) (filter (crosses side limit) book)

-- whether an order rests on this side and is shown
abbrev pub is_shown_on : Side → Resting → Bool
is_shown_on side o = is_on side o && o.shown

-- the first shown order of a side
abbrev pub top_of : Side → List Resting → Option Resting
top_of side book = first_best side (filter (is_shown_on side) book)

-- the open shares of the shown orders of a side at one price
abbrev pub shares_at : Side → ℕ → List Resting → ℕ
shares_at side price book = sum_by (λ o. o.left) (filter (λ o. is_shown_on side o && (o.price == price)) book)

-- the best price of the shown orders of a side and their open shares at it
abbrev pub best_at : Side → List Resting → Option Best
best_at side book = option_map (λ o. record { price = o.price; shares = shares_at side o.price book }) (top_of side book)
