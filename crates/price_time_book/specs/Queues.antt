-- The queues of a book: of each side the shown orders, and the hidden ones.
use Rattle.std.specs.Prelude.{ℕ, Bool, true, false, not, ◌&&◌, ◌==◌, List, Option, Some, None, if◌then◌else◌, option_map, filter, sum_by}
use Rattle.market_types.specs.declared.order.Side.{Side}
use Rattle.price_time_book.specs.declared.levels.Queue.{Queue}
use Rattle.price_time_book.specs.declared.resting.Best.{Best}
use Rattle.price_time_book.specs.declared.resting.Resting.{Resting}
use Rattle.price_time_book.specs.Next.{first_best}
use Rattle.price_time_book.specs.Sides.{is_better, is_on}

abbrev pub shown_of : Side → Queue
shown_of side = record { side = side; shown = true }

abbrev pub hidden_of : Side → Queue
hidden_of side = record { side = side; shown = false }

-- the queue of an order
abbrev pub queue_of : Resting → Queue
queue_of o = record { side = o.side; shown = o.shown }

-- whether an order is shown where the queue's are, or hidden where they are
abbrev pub is_kind : Bool → Bool → Bool
is_kind true shown = shown
is_kind false shown = not shown

abbrev pub is_in : Queue → Resting → Bool
is_in q o = is_on q.side o && is_kind q.shown o.shown

-- the first order of a queue
abbrev pub top_in : Queue → List Resting → Option Resting
top_in q book = first_best q.side (filter (is_in q) book)

-- the open shares of a queue at one price
abbrev pub shares_in : Queue → ℕ → List Resting → ℕ
shares_in q price book = sum_by (λ o. o.left) (filter (λ o. is_in q o && (o.price == price)) book)

-- the best price of a queue and the open shares at it
abbrev pub best_in : Queue → List Resting → Option Best
best_in q book = option_map (λ o. record { price = o.price; shares = shares_in q o.price book }) (top_in q book)

-- the first order of a side, shown or hidden
abbrev pub first_on : Side → List Resting → Option Resting
first_on side book = first_best side (filter (is_on side) book)

-- of the first shown and the first hidden order of a side the one that comes first: at one price the shown one
abbrev pub better_of : Side → Option Resting → Option Resting → Option Resting
better_of side None hidden = hidden
better_of side (Some a) None = Some a
better_of side (Some a) (Some b) = Some (if is_better side b.price a.price then b else a)
