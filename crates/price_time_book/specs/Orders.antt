-- Orders of a book by reference, and by agent and token. A book is the list of its orders in order of arrival.
use Rattle.std.specs.Prelude.{ℕ, ◌-◌, not, ◌&&◌, ◌==◌, bytes_eq, if◌then◌else◌, List, Option, find, filter, map}
use Rattle.market_types.specs.declared.order.Token.{Token}
use Rattle.price_time_book.specs.declared.resting.Resting.{Resting}

-- the order with this reference
abbrev pub order_with : ℕ → List Resting → Option Resting
order_with reference book = find (λ o. o.reference == reference) book

-- the order that this agent sent under this token
abbrev pub order_of : ℕ → Token → List Resting → Option Resting
order_of agent token book = find (λ o. (o.agent == agent) && bytes_eq o.token.0 token.0) book

-- the book without the order of this reference
abbrev pub without : ℕ → List Resting → List Resting
without reference book = filter (λ o. not (o.reference == reference)) book

-- the book in which this order stands in the place of the one with its reference
abbrev pub with_order : Resting → List Resting → List Resting
with_order order book = map (λ o. if o.reference == order.reference then order else o) book

-- the book once the order of this reference has become this one, which leaves where it has no open shares
abbrev pub changed : Resting → List Resting → List Resting
changed order book = if order.left == 0 then without order.reference book else with_order order book

-- an order with fewer open shares, by as many of which its intended size is lower
abbrev pub reduced : ℕ → Resting → Resting
reduced left o = record o { intended = o.intended - (o.left - left); left = left }
