-- The books of an exchange as its feed tells them.
use Rattle.std.specs.Prelude.{◌≡◌, ◌≤◌, ◌==◌, ℕ, map, filter, List, IfSome}
use Rattle.price_time_book.specs.declared.resting.Resting.{Resting}
use Rattle.exchange_agent.specs.State.{State, Stock, stock_at}
use Rattle.feed_rebuild.specs.declared.shown.Shown.{Shown}
use Rattle.feed_rebuild.specs.Fold.{Told}

-- a resting order of the stock of a number, as the feed tells it
abbrev pub shown_of : ℕ → Resting → Shown
shown_of k o = record { stock = k; reference = o.reference; side = o.side; left = o.left; price = o.price }

-- the displayed orders of the stock of a number, in order of arrival
abbrev pub shown_in : State → ℕ → List Shown
shown_in s k = map (shown_of k) (filter (λ (o : Resting). o.shown) (stock_at s k).book)

-- What was told is the exchange's displayed orders, stock by stock, and its trading states; and no reference was told that
-- wasn't given yet.
pub record IsShownBy (s : State) (t : Told) : Type 0 where
  pub states : t.states ≡ map (λ (k : Stock). k.trading) s.stocks
  pub orders : (k : ℕ) → filter (λ (o : Shown). o.stock == k) t.orders ≡ shown_in s k
  pub given : IfSome t.last (λ (reference : ℕ). reference ≤ s.counts.orders)
