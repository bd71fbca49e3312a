-- Open orders that come to rest anew, one after another.
use Rattle.std.specs.Prelude.{◌≡◌, ◌≢◌, ◌<◌, ◌≤◌, ℕ, List, All, None, length, slice_index_or, take}
use Rattle.price_time_book.specs.declared.resting.Resting.{Resting}
use Rattle.price_time_book.specs.Indexed.{nothing, open_orders}
use Rattle.price_time_book.specs.Orders.{order_of}

-- an order of a vector may come to rest in the book of the open orders before it
pub record IsAwaited (os list : List Resting) (o : Resting) : Type 0 where
  pub few : length list < length (open_orders os)
  pub shares : 0 < o.left
  pub intended : o.left ≤ o.intended
  pub later : All (λ (x : Resting). x.reference < o.reference) list
  pub fresh : order_of o.agent o.token list ≡ None

-- so may each open order of the vector
abbrev pub AreAwaited : List Resting → Type 0
AreAwaited os = (i : ℕ) → i < length os → (slice_index_or os i nothing).left ≢ 0 → IsAwaited os (open_orders (take i os)) (slice_index_or os i nothing)
