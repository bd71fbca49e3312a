-- What dated changes and edits leave of an exchange.
use Rattle.std.proofs.Common.{◌≡◌, ℕ, ◌+◌, ◌≤◌, ◌<◌, Bool, true, false, List, [], ◌∷◌, length, take, All, None, arith, refl, ◌∙◌}
use Rattle.std.specs.Prelude.{◌==◌, if◌then◌else◌, slice_index_or}
use Rattle.std.proofs.lemmas.List.{drop_all, get_or-take, length-take}
use Rattle.std.proofs.lemmas.List.Elements.{All-append, All-drop, All-head, All-nil, All-tail, All-weaker}
use Rattle.market_types.specs.declared.feed.Feed.{Feed}
use Rattle.market_types.specs.declared.feed.What.TheVariants as what
use Rattle.market_rules.specs.declared.changes.Change.{Change}
use Rattle.market_rules.specs.declared.changes.Change.TheVariants as change
use Rattle.market_rules.specs.declared.changes.Dated.{Dated}
use Rattle.market_rules.specs.Changes.{dated_by, dates_refusal}
use Rattle.exchange_agent.specs.Changes.{Changed, changed_by}
use Rattle.exchange_agent.specs.State.{State, Stock, stock_at, with_stock}
use Rattle.exchange_agent.proofs.Tellings.{at-change, keeps-change}
use Rattle.market_floor.specs.declared.opening.Opening.{Opening}
use Rattle.market_floor.specs.Ruled.{all_changed, due}

-- a book has at most so many orders
abbrev pub IsShort : ℕ → Stock → Type 0
IsShort n k = length k.book ≤ n

-- what the exchange's law says of a change
abbrev pub ChangesKeepBooks : Type 0
ChangesKeepBooks = (s : State) (time stock n : ℕ) (c : Change) → All (IsShort n) s.stocks → All (IsShort n) (changed_by s time stock c).state.stocks

-- What a change of rules leaves of an exchange.
pub record IsLike (s after : State) : Type 0 where
  pub stocks : length after.stocks ≡ length s.stocks
  pub cash : length after.cash ≡ length s.cash
  pub counts : after.counts ≡ s.counts

abbrev turned-by : Bool → State → ℕ → ℕ → ℕ → Changed
turned-by b s time k letter =
    if b then record { state = s; feed = [] }
    else record {
      state = with_stock s k (record (stock_at s k) { trading = letter });
      feed = record { locate = k + 1; tracking = 0; time = time; what = what.Trading (stock_at s k).symbol letter 32 (32 ∷ 32 ∷ 32 ∷ 32 ∷ []) } ∷ [];
    }

counts-turned : (b : Bool) (s : State) (time k letter : ℕ) → (turned-by b s time k letter).state.counts ≡ s.counts
counts-turned true s time k letter = refl
counts-turned false s time k letter = refl

counts-change : (s : State) (time k : ℕ) (c : Change) → (changed_by s time k c).state.counts ≡ s.counts
counts-change s time k (change.Tick bands) = refl
counts-change s time k (change.Fee fees) = refl
counts-change s time k change.Halt = counts-turned ((stock_at s k).trading == 72) s time k 72
counts-change s time k change.Resume = counts-turned ((stock_at s k).trading == 84) s time k 84

pub like-change : (s : State) (time k : ℕ) (c : Change) → IsLike s (changed_by s time k c).state
like-change s time k c = record { stocks = (keeps-change s time k c).stocks; cash = (keeps-change s time k c).cash; counts = counts-change s time k c }

pub like-all : (ds : List Dated) (s : State) → IsLike s (all_changed ds s).state
like-all [] s = record { stocks = refl; cash = refl; counts = refl }
like-all (d ∷ ds) s =
    let first = like-change s d.time d.stock d.change in
    let rest = like-all ds (changed_by s d.time d.stock d.change).state in
    record { stocks = rest.stocks ∙ first.stocks; cash = rest.cash ∙ first.cash; counts = rest.counts ∙ first.counts }

pub short-all : (law : ChangesKeepBooks) (n : ℕ) (ds : List Dated) (s : State) → All (IsShort n) s.stocks → All (IsShort n) (all_changed ds s).state.stocks
short-all law n [] s h = h
short-all law n (d ∷ ds) s h = short-all law n ds (changed_by s d.time d.stock d.change).state (law s d.time d.stock n d.change h)

-- the feed of changes that are dated at a time or earlier
abbrev pub IsBy : ℕ → Feed → Type 0
IsBy time f = f.time ≤ time

abbrev pub IsDatedBy : ℕ → Dated → Type 0
IsDatedBy time d = d.time ≤ time

by-change : (time : ℕ) (s : State) (d : Dated) → d.time ≤ time → All (IsBy time) (changed_by s d.time d.stock d.change).feed
by-change time s d le =
    All-weaker (λ (f : Feed). f.time ≡ d.time) (IsBy time) (λ (f : Feed) (e : f.time ≡ d.time). omega (arith, e, le)) (changed_by s d.time d.stock d.change).feed (at-change s d.time d.stock d.change)

pub by-all : (time : ℕ) (ds : List Dated) (s : State) → All (IsDatedBy time) ds → All (IsBy time) (all_changed ds s).feed
by-all time [] s h = All-nil (IsBy time)
by-all time (d ∷ ds) s h =
    All-append (IsBy time) (changed_by s d.time d.stock d.change).feed (all_changed ds (changed_by s d.time d.stock d.change).state).feed
    (by-change time s d (All-head (IsDatedBy time) d ds h))
    (by-all time ds (changed_by s d.time d.stock d.change).state (All-tail (IsDatedBy time) d ds h))

-- the changes that are due are dated at the time or earlier
abbrev pub FirstAreDue : Type 0
FirstAreDue = (list : List Dated) (time k : ℕ) (d : Dated) → dates_refusal list ≡ None → k < dated_by list time → (slice_index_or list k d).time ≤ time

pub due-by : (law : FirstAreDue) (o : Opening) (applied time : ℕ) → dates_refusal o.dated ≡ None → All (IsDatedBy time) (due o applied time)
due-by law o applied time rising =
    All-drop (IsDatedBy time) applied (take (dated_by o.dated time) o.dated) (λ k d lt.
    let within : k < dated_by o.dated time = omega (arith, lt, length-take (dated_by o.dated time) o.dated) in
    rw (get_or-take (dated_by o.dated time) o.dated k d within) (law o.dated time k d rising within))

-- none is due where no more are dated so than were made
pub none-due : (o : Opening) (applied time : ℕ) → dated_by o.dated time ≤ applied → due o applied time ≡ []
none-due o applied time le = drop_all applied (take (dated_by o.dated time) o.dated) (omega (arith, le, length-take (dated_by o.dated time) o.dated))
