-- What stays true of the orders of a book when some of them give shares, are lowered or leave.
use Rattle.std.specs.Prelude.{◌≡◌, ℕ, ◌≤◌, Bool, true, List, Contains}
use Rattle.price_time_book.specs.declared.resting.Resting.{Resting}
use Rattle.price_time_book.specs.Orders.{reduced}

-- an order that passes the test passes it with fewer open shares too
abbrev pub IsKeptByFills : (Resting → Bool) → Type 0
IsKeptByFills p = (o : Resting) (left : ℕ) → left ≤ o.left → p o ≡ true → p (record o { left = left }) ≡ true

-- an order that passes the test passes it once it is lowered
abbrev pub IsKeptByReduce : (Resting → Bool) → Type 0
IsKeptByReduce p = (o : Resting) (left : ℕ) → left ≤ o.left → p o ≡ true → p (reduced left o) ≡ true

-- an order of the book, but for its open shares and its intended size, of which it has no more
pub record WasIn (book : List Resting) (x : Resting) : Type 0 where
  pub order : Resting
  pub held : Contains book order
  pub same : x ≡ record order { left = x.left; intended = x.intended }
  pub left : x.left ≤ order.left
  pub intended : x.intended ≤ order.intended
