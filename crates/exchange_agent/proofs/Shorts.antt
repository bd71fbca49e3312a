-- How long books grow, and how many replies a message gives.
use Rattle.std.proofs.Common.{◌≡◌, ℕ, zero, suc, ◌+◌, ◌*◌, ◌≤◌, Bool, true, false, List, [], ◌∷◌, length, All, Option, Some, None, arith, refl, ap}
use Rattle.std.specs.Prelude.{◌==◌, nat_lt, if◌then◌else◌, slice_index_or}
use Rattle.std.proofs.lemmas.List.{length-append}
use Rattle.std.proofs.lemmas.List.Elements.{All-set, All-weaker}
use Rattle.std.proofs.lemmas.List.Sums.{count_by-le-length}
use Rattle.market_types.specs.declared.feed.What.TheVariants as what
use Rattle.market_types.specs.declared.message.Body.{Body}
use Rattle.market_types.specs.declared.message.Body.TheVariants as body
use Rattle.market_types.specs.declared.order.Cancel.{Cancel}
use Rattle.market_types.specs.declared.order.Enter.{Enter}
use Rattle.market_types.specs.declared.order.Inbound.TheVariants as inbound
use Rattle.market_types.specs.declared.order.Side.{Side}
use Rattle.market_rules.specs.declared.changes.Change.{Change}
use Rattle.market_rules.specs.declared.changes.Change.TheVariants as change
use Rattle.price_time_book.specs.declared.resting.Fill.{Fill}
use Rattle.price_time_book.specs.declared.resting.Resting.{Resting}
use Rattle.price_time_book.specs.Matched.{Matching, completed, matched}
use Rattle.price_time_book.specs.Next.{crosses, crossing_of}
use Rattle.price_time_book.specs.Orders.{changed, reduced}
use Rattle.exchange_agent.specs.declared.cancel.Found.{Found}
use Rattle.exchange_agent.specs.declared.handled.Outgoing.{Outgoing}
use Rattle.exchange_agent.specs.declared.settle.Taking.{Taking}
use Rattle.exchange_agent.specs.declared.verdict.Verdict.{Verdict}
use Rattle.exchange_agent.specs.declared.verdict.Verdict.TheVariants.{Ignored, Forgotten, Refused, Accepted}
use Rattle.exchange_agent.specs.Cancel.{cancel_of, canceled, found_from, open_of, unheard}
use Rattle.exchange_agent.specs.Changes.{Changed, changed_by, turned}
use Rattle.exchange_agent.specs.Enter.{entered_by, remainder, remembering, taking_of, verdict_of, way_from, way_of}
use Rattle.exchange_agent.specs.Market.{market}
use Rattle.exchange_agent.specs.Outcome.{Outcome}
use Rattle.exchange_agent.specs.Settle.{Way, all_settled, settled}
use Rattle.exchange_agent.specs.State.{State, Stock, no_stock, stock_at, with_stock}
use Rattle.exchange_agent.proofs.Ends.{way-book}

-- what the book's laws say of lengths
pub record LengthLaws : Type 0 where
  pub crossing : (side : Side) (limit : ℕ) (m : Matching) → length (completed side limit m).fills ≤ length m.fills + crossing_of side limit m.book
  pub matched : (side : Side) (limit : ℕ) (m : Matching) → length (completed side limit m).book ≤ length m.book
  pub changed : (o : Resting) (book : List Resting) → length (changed o book) ≤ length book

-- a stock's book has at most so many orders
abbrev pub IsShort : ℕ → Stock → Type 0
IsShort n k = length k.book ≤ n

short-at : (n : ℕ) (xs : List Stock) (k : ℕ) → All (IsShort n) xs → length (slice_index_or xs k no_stock).book ≤ n
short-at n [] k h = omega arith
short-at n (x ∷ xs) zero h = h 0 no_stock (omega arith)
short-at n (x ∷ xs) (suc k) h = short-at n xs k (λ j d lt. h (suc j) d (omega (arith, lt)))

later : (n : ℕ) (xs : List Stock) → All (IsShort n) xs → All (IsShort (n + 1)) xs
later n xs h = All-weaker (IsShort n) (IsShort (n + 1)) (λ (k : Stock) (q : IsShort n k). omega (arith, q)) xs h

with-short : (n : ℕ) (s : State) (k : ℕ) (x : Stock) → length x.book ≤ n → All (IsShort n) s.stocks → All (IsShort n) (with_stock s k x).stocks
with-short n s k x short h = All-set (IsShort n) s.stocks k x short h

-- two replies a fill
replies-all : (t : Taking) (fills : List Fill) (w : Way) → length (all_settled t fills w).replies ≡ length w.replies + 2 * length fills
replies-all t [] w = omega arith
replies-all t (f ∷ fs) w =
    let rest = replies-all t fs (settled t f w) in
    omega (arith, rest, length-append {A = Outgoing})

-- what a rest adds
record IsLittleMore (w v : Way) : Type 0 where
  book : length v.stock.book ≤ length w.stock.book + 1
  replies : length v.replies ≤ length w.replies + 1

little-same : (w : Way) → IsLittleMore w w
little-same w = record { book = omega arith; replies = omega arith }

if-both : (b : Bool) (P : Way → Type 0) (x y : Way) → P x → P y → P (if b then x else y)
if-both true P x y p q = p
if-both false P x y p q = q

little-remainder : (t : Taking) (e : Enter) (reference left : ℕ) (w : Way) → IsLittleMore w (remainder t e reference left w)
little-remainder t e reference left w =
    if-both (left == 0) (IsLittleMore w) w _ (little-same w)
    (if-both (e.tif == 0) (IsLittleMore w) _ _
    (record { book = omega arith; replies = omega (arith, length-append {A = Outgoing}) })
    (record { book = omega (arith, length-append {A = Resting}); replies = omega arith }))

-- the whole way of an accepted order
record IsShortWay (n : ℕ) (v : Way) : Type 0 where
  book : length v.stock.book ≤ n + 1
  replies : length v.replies ≤ 2 * n + 2

short-way : (laws : LengthLaws) (n : ℕ) (t : Taking) (e : Enter) (reference : ℕ) (w : Way) → length w.stock.book ≤ n → length w.replies ≤ 1 → IsShortWay n (way_of t e reference w)
short-way laws n t e reference w few one =
    let m : Matching = record { fills = []; book = w.stock.book; shares = e.shares } in
    let k = matched w.stock.book e.side e.price e.shares in
    let v = all_settled t k.fills w in
    let is-book : v.stock.book ≡ k.book = way-book t w.stock.book e.side e.price e.shares w refl in
    let fewer : length k.book ≤ length w.stock.book = laws.matched e.side e.price m in
    let here : length v.stock.book ≡ length k.book = ap (λ (b : List Resting). length b) is-book in
    let fills : length k.fills ≤ 0 + crossing_of e.side e.price w.stock.book = laws.crossing e.side e.price m in
    let cross : crossing_of e.side e.price w.stock.book ≤ length w.stock.book = count_by-le-length (crosses e.side e.price) w.stock.book in
    let replies : length v.replies ≡ length w.replies + 2 * length k.fills = replies-all t k.fills w in
    let more = little-remainder t e reference k.shares v in
    record {
      book = omega (arith, more.book, here, fewer, few);
      replies = omega (arith, more.replies, replies, fills, cross, few, one);
    }

-- What a message gives where no book has more than so many orders.
pub record IsShortOutcome (n : ℕ) (out : Outcome) : Type 0 where
  pub books : All (IsShort (n + 1)) out.state.stocks
  pub replies : length out.replies ≤ 2 * n + 2

short-entered : (laws : LengthLaws) (n : ℕ) (s : State) (time agent : ℕ) (e : Enter) (v : Verdict) → All (IsShort n) s.stocks → IsShortOutcome n (entered_by s time agent e v)
short-entered laws n s time agent e Ignored h = record { books = later n s.stocks h; replies = omega arith }
short-entered laws n s time agent e (Forgotten reason) h = record { books = later n s.stocks h; replies = omega arith }
short-entered laws n s time agent e (Refused reason) h = record { books = later n s.stocks h; replies = omega arith }
short-entered laws n s time agent e (Accepted k) h =
    let w = way_from (remembering s agent e) time agent e k in
    let way = short-way laws n (taking_of time agent e k) e (s.counts.orders + 1) w (short-at n s.stocks k h) (omega arith) in
    record { books = with-short (n + 1) s k (way_of (taking_of time agent e k) e (s.counts.orders + 1) w).stock way.book (later n s.stocks h); replies = way.replies }

abbrev cancel-by : Bool → State → ℕ → ℕ → Cancel → Found → Outcome
cancel-by t s time agent c f = if t then canceled s time agent c f.stock f.order else unheard s

-- the stock of an order that is lowered
abbrev canceled-stock : State → Cancel → Found → Stock
canceled-stock s c f = record (stock_at s f.stock) { book = changed (reduced (open_of f.order c.shares) f.order) (stock_at s f.stock).book }

short-cancel-by : (laws : LengthLaws) (b : Bool) (n : ℕ) (s : State) (time agent : ℕ) (c : Cancel) (f : Found) → All (IsShort n) s.stocks → IsShortOutcome n (cancel-by b s time agent c f)
short-cancel-by laws true n s time agent c f h = record {
  books = with-short (n + 1) s f.stock (canceled-stock s c f) (omega (arith, laws.changed (reduced (open_of f.order c.shares) f.order) (stock_at s f.stock).book, short-at n s.stocks f.stock h)) (later n s.stocks h);
  replies = omega arith;
}
short-cancel-by laws false n s time agent c f h = record { books = later n s.stocks h; replies = omega arith }

short-cancel : (laws : LengthLaws) (n : ℕ) (s : State) (time agent : ℕ) (c : Cancel) (f : Option Found) → All (IsShort n) s.stocks → IsShortOutcome n (cancel_of s time agent c f)
short-cancel laws n s time agent c None h = record { books = later n s.stocks h; replies = omega arith }
short-cancel laws n s time agent c (Some f) h = short-cancel-by laws (nat_lt c.shares f.order.intended) n s time agent c f h

pub short-market : (laws : LengthLaws) (n : ℕ) (s : State) (time agent : ℕ) (b : Body) → All (IsShort n) s.stocks → IsShortOutcome n (market s time agent b)
short-market laws n s time agent (body.Order (inbound.Enter e)) h = short-entered laws n s time agent e (verdict_of s agent e) h
short-market laws n s time agent (body.Order (inbound.Cancel c)) h = short-cancel laws n s time agent c (found_from 0 agent c.token s.stocks) h
short-market laws n s time agent (body.Ask k) h = record { books = later n s.stocks h; replies = omega arith }
short-market laws n s time agent body.Wake h = record { books = later n s.stocks h; replies = omega arith }
short-market laws n s time agent (body.Answer r) h = record { books = later n s.stocks h; replies = omega arith }
short-market laws n s time agent (body.Quote q) h = record { books = later n s.stocks h; replies = omega arith }

abbrev turned-way : Bool → State → ℕ → ℕ → ℕ → Changed
turned-way b s time k letter =
    if b then record { state = s; feed = [] }
    else record {
      state = with_stock s k (record (stock_at s k) { trading = letter });
      feed = record { locate = k + 1; tracking = 0; time = time; what = what.Trading (stock_at s k).symbol letter 32 (32 ∷ 32 ∷ 32 ∷ 32 ∷ []) } ∷ [];
    }

short-turned : (n : ℕ) (s : State) (time k letter : ℕ) → All (IsShort n) s.stocks → All (IsShort n) (turned s time k letter).state.stocks
short-turned n s time k letter h =
    elim ((stock_at s k).trading == letter) as (λ b. All (IsShort n) (turned-way b s time k letter).state.stocks) [ true ↦ h | false ↦ with-short n s k (record (stock_at s k) { trading = letter }) (short-at n s.stocks k h) h ]

-- a change of rules leaves books as they are
pub short-change : (n : ℕ) (s : State) (time k : ℕ) (c : Change) → All (IsShort n) s.stocks → All (IsShort n) (changed_by s time k c).state.stocks
short-change n s time k (change.Tick bands) h = with-short n s k (record (stock_at s k) { bands = bands }) (short-at n s.stocks k h) h
short-change n s time k (change.Fee fees) h = with-short n s k (record (stock_at s k) { fees = fees }) (short-at n s.stocks k h) h
short-change n s time k change.Halt h = short-turned n s time k 72 h
short-change n s time k change.Resume h = short-turned n s time k 84 h
