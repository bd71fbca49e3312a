-- How an incoming order is matched with a book, which is the list of its orders in order of arrival.
use Rattle.std.specs.Prelude.{◌≡◌, ◌⊎◌, ℕ, zero, suc, ◌-◌, ◌==◌, min, if◌then◌else◌, List, [], ◌∷◌, ◌++◌, length, Option, Some, None}
use Rattle.market_types.specs.declared.order.Side.{Side}
use Rattle.price_time_book.specs.declared.resting.Fill.{Fill}
use Rattle.price_time_book.specs.declared.resting.Resting.{Resting}
use Rattle.price_time_book.specs.Next.{next_of}
use Rattle.price_time_book.specs.Orders.{changed}

-- what a resting order gives to an incoming one that wants so many shares: the lesser of its open shares and those
abbrev pub fill_of : ℕ → Resting → Fill
fill_of shares o = record { resting = o; shares = min o.left shares }

-- the book once an order gave the shares of a fill
abbrev pub after_fill : Fill → List Resting → List Resting
after_fill f book = changed (record (f.resting) { left = f.resting.left - f.shares }) book

-- an incoming order on its way: its fills so far, the book, and the shares that it still wants
pub record Matching : Type 0 where
  pub fills : List Fill
  pub book : List Resting
  pub shares : ℕ

-- one more fill
abbrev pub with_fill : Fill → Matching → Matching
with_fill f m = record { fills = m.fills ++ f ∷ []; book = after_fill f m.book; shares = m.shares - f.shares }

-- the next order gives its shares; nothing happens where there is none or no shares are wanted
abbrev pub with_next : Option Resting → Matching → Matching
with_next None m = m
with_next (Some o) m = if m.shares == 0 then m else with_fill (fill_of m.shares o) m

-- so many times the next order
abbrev pub matched_by : ℕ → Side → ℕ → Matching → Matching
matched_by zero side limit m = m
matched_by (suc n) side limit m = matched_by n side limit (with_next (next_of m.book side limit) m)

-- an incoming order until it wants no more or nothing crosses: each time but the last an order leaves, so as many times as there are
-- orders suffice
abbrev pub completed : Side → ℕ → Matching → Matching
completed side limit m = matched_by (length m.book) side limit m

-- the whole way of an incoming order of this side and limit for so many shares
abbrev pub matched : List Resting → Side → ℕ → ℕ → Matching
matched book side limit shares = completed side limit (record { fills = []; book = book; shares = shares })

-- an incoming order wants no more, or nothing crosses
abbrev pub IsEnded : Side → ℕ → Matching → Type 0
IsEnded side limit m = (m.shares ≡ 0) ⊎ (next_of m.book side limit ≡ None)
