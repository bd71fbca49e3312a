-- What a stock's book and a file's orders come to in a state.
use Rattle.std.specs.Prelude.{◌≡◌, ℕ, ◌+◌, List, [], ◌++◌, Option, None, Some, IfSome, map}
use Rattle.price_time_book.specs.declared.resting.Resting.{Resting}
use Rattle.exchange_agent.specs.State.{stock_at}
use Rattle.kernel_core.specs.State.{State}
use Rattle.reopen_cross.specs.declared.cross.Cross.{Cross}
use Rattle.reopen_cross.specs.declared.cross.Interest.{Interest}
use Rattle.reopen_cross.specs.declared.cross.Part.{Part}
use Rattle.reopen_cross.specs.Clearing.{IsClearing}
use Rattle.reopen_cross.specs.Cross.{cross_of, executed}
use Rattle.reopen_cross.specs.Parts.{parts_of}
use Rattle.reopening_desk.specs.Filed.{numbered_after}
use Rattle.reopening_desk.specs.declared.whole.Reopening.{Reopening}
use Rattle.reopening_desk.specs.Reopening.{reopening_frames}
use Rattle.reopening_desk.specs.declared.stock.StockNamed.{StockNamed}

-- an order of a book
abbrev pub interest_of : Resting → Interest
interest_of r = record { reference = r.reference; side = r.side; price = r.price; left = r.left; shown = r.shown }

-- the orders of a file, under the references after the state's last
abbrev pub joining : State → List Interest → List Interest
joining s filed = map (numbered_after s.floor.exchange.counts.orders) filed

-- the stock's live orders by arrival, and then those of the file
abbrev pub interests_of : State → ℕ → List Interest → List Interest
interests_of s k filed = map interest_of (stock_at s.floor.exchange k).book ++ joining s filed

-- what each order trades, where there is a cross
abbrev pub parts_in : List Interest → Option Cross → List Part
parts_in list None = []
parts_in list (Some c) = parts_of list c

-- a stock that would reopen in a state
abbrev pub reopening_at : State → StockNamed → Reopening
reopening_at s stock = record {
  time = s.time;
  locate = stock.number + 1;
  symbol = stock.symbol;
  matches = s.floor.exchange.counts.matches;
}

-- what is told of a list of interest, of which these orders join the book
abbrev pub told_of : Reopening → List Interest → List Interest → List ℕ
told_of at filed list = reopening_frames at filed (cross_of list) (parts_in list (cross_of list))

-- What is told of a stock's reopening in a state, if the orders of a file joined its book.
unfoldable pub reopened : State → StockNamed → List Interest → List ℕ
reopened s stock filed = told_of (reopening_at s stock) (joining s filed) (interests_of s stock.number filed)

-- The price at which a list of interest crosses clears it: no price executes more shares, and the certificate shows that. Where
-- there is no such price, no share would trade at any.
pub record Clears (list : List Interest) : Type 0 where
  pub crossed : IfSome (cross_of list) (IsClearing list)
  pub uncrossed : cross_of list ≡ None → (p : ℕ) → executed list p ≡ 0
