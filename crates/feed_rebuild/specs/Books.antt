-- What an audit keeps of a fold: the displayed orders and the trading states.
use Rattle.std.specs.Prelude.{ℕ, List, Result, Ok, Err}
use Rattle.feed_rebuild.specs.declared.shown.Shown.{Shown}
use Rattle.feed_rebuild.specs.Fold.{Told}

-- the displayed orders in the order in which the feed told them, and the trading state of each stock
pub record Books : Type 0 where
  pub orders : List Shown
  pub states : List ℕ

-- what is kept of all that was told
abbrev pub books_of : Told → Books
books_of t = record { orders = t.orders; states = t.states }

-- the same of a fold that may end with a misfit
abbrev pub books : Result Told ℕ → Result Books ℕ
books (Ok t) = Ok (books_of t)
books (Err reference) = Err reference
