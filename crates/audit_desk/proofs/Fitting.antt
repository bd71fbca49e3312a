-- The numbers by which a course's feeds and closings tell the books fit their fields.
use Rattle.std.proofs.Common.{◌≡◌, ℕ, zero, suc, ◌<◌, ◌≤◌, List, [], ◌∷◌, ◌++◌, length, map, All, sym, subst, arith}
use Rattle.std.proofs.lemmas.List.Elements.{All-append, All-cons, All-get_or, All-map, All-nil, All-push, All-weaker}
use Rattle.market_types.specs.Limits.{most_events, most_stocks}
use Rattle.market_types.specs.declared.feed.Feed.{Feed}
use Rattle.market_types.specs.declared.feed.What.{What}
use Rattle.market_types.specs.declared.feed.What.TheVariants as what
use Rattle.price_time_book.specs.declared.resting.Resting.{Resting}
use Rattle.exchange_agent.specs.State.{State as Exchange, no_stock, stock_at}
use Rattle.market_floor.specs.declared.opening.Opening.{Opening}
use Rattle.kernel_copy.specs.Closing.{order_closed, orders_closed}
use Rattle.kernel_copy.specs.Courses.{CourseTold}
use Rattle.kernel_copy.specs.Full.{full_run}
use Rattle.trace_bundle.specs.Feed.{directories, directory, opening_feed, symbol_at, system_event, trading, tradings}
use Rattle.feed_rebuild.specs.Feeds.{entries_feed}
use Rattle.audit_desk.specs.Audited.{branch_feed}
use Rattle.audit_desk.specs.Back.{branch_back}
use Rattle.market_laws.specs.Small.{IsSmallFeed, IsSmallOrder, IsSmallStock, IsSmallWhat}
use Rattle.market_laws.specs.Market.{exchange_of}
use Rattle.audit_desk.specs.Clipped.{HasBookNumbers, IsComparable, TellsBooks}
use Rattle.audit_desk.proofs.Moved.{same-feed}

-- ---- messages

small-numbers : (accepted matches : ℕ) (w : What) → accepted ≤ most_events → IsSmallWhat accepted matches w → HasBookNumbers w
small-numbers accepted matches (what.Add reference side shares stock price) few h = (omega (arith, few, h.0.1), omega (arith, h.1.1), omega (arith, h.2.1))
small-numbers accepted matches (what.Executed reference shares match_number) few h = (omega (arith, few, h.0.1), omega (arith, h.1.1))
small-numbers accepted matches (what.Cancel reference shares) few h = (omega (arith, few, h.0.1), omega (arith, h.1.1))
small-numbers accepted matches (what.Delete reference) few h = omega (arith, few, h.1)
small-numbers accepted matches w few h = tt

small-tells : (stocks accepted matches : ℕ) (m : Feed) → stocks ≤ most_stocks → accepted ≤ most_events → IsSmallFeed stocks accepted matches m → TellsBooks m
small-tells stocks accepted matches m listed few h = record { locate = omega (arith, listed, h.locate.1); numbers = small-numbers accepted matches m.what few h.what }

tells-directories : (o : Opening) (n : ℕ) → n ≤ most_stocks → All TellsBooks (directories o n)
tells-directories o zero le = All-nil TellsBooks
tells-directories o (suc n) le =
    All-push TellsBooks (directories o n) (directory o.start n (symbol_at o n)) (tells-directories o n (omega (arith, le)))
    (record { locate = omega (arith, le); numbers = tt })

tells-tradings : (o : Opening) (n : ℕ) → n ≤ most_stocks → All TellsBooks (tradings o n)
tells-tradings o zero le = All-nil TellsBooks
tells-tradings o (suc n) le =
    All-push TellsBooks (tradings o n) (trading o.start n (symbol_at o n)) (tells-tradings o n (omega (arith, le)))
    (record { locate = omega (arith, le); numbers = tt })

tells-system : (time code : ℕ) → TellsBooks (system_event time code)
tells-system time code = record { locate = omega arith; numbers = tt }

tells-opening : (o : Opening) → length o.stocks ≤ most_stocks → All TellsBooks (opening_feed o)
tells-opening o le =
    let n = length o.stocks in
    All-cons TellsBooks (system_event o.start 79) (directories o n ++ tradings o n) (tells-system o.start 79)
    (All-append TellsBooks (directories o n) (tradings o n) (tells-directories o n le) (tells-tradings o n le))

-- ---- orders

comparable : (traders accepted k : ℕ) (r : Resting) → accepted ≤ most_events → k < 65536 → IsSmallOrder traders accepted r → IsComparable (order_closed k r)
comparable traders accepted k r few listed h = record {
  stock = listed;
  reference = omega (arith, few, h.reference.1);
  left = omega (arith, h.left.1, h.intended);
  price = omega (arith, h.price.1);
}

comparable-book : (traders accepted k : ℕ) (book : List Resting) → accepted ≤ most_events → k < 65536 → All (IsSmallOrder traders accepted) book
    → All IsComparable (map (order_closed k) book)
comparable-book traders accepted k book few listed h =
    All-map IsComparable (order_closed k) book
    (All-weaker (IsSmallOrder traders accepted) (λ (r : Resting). IsComparable (order_closed k r)) (λ r. comparable traders accepted k r few listed) book h)

pub comparable-orders : (traders : ℕ) (x : Exchange) (n : ℕ) → x.counts.orders ≤ most_events → length x.stocks ≤ 65536 → n ≤ length x.stocks
    → All (IsSmallStock traders x.counts.orders) x.stocks → All IsComparable (orders_closed x n)
comparable-orders traders x zero few listed le h = All-nil IsComparable
comparable-orders traders x (suc n) few listed le h =
    let here = All-get_or (IsSmallStock traders x.counts.orders) x.stocks n no_stock (omega (arith, le)) h in
    All-append IsComparable (orders_closed x n) (map (order_closed n) (stock_at x n).book)
    (comparable-orders traders x n few listed (omega (arith, le)) h)
    (comparable-book traders x.counts.orders n (stock_at x n).book few (omega (arith, le, listed)) here.orders)

-- ---- a branch

-- The numbers of a branch's full run: those of its exchange are in their ranges, and those of its feed.
pub record IsSmallRun (c : CourseTold) (b : ℕ) : Type 0 where
  pub listed : length c.opening.stocks ≤ most_stocks
  pub stocks : length (exchange_of (full_run c.opening c.plan b)).stocks ≡ length c.opening.stocks
  pub few : (exchange_of (full_run c.opening c.plan b)).counts.orders ≤ most_events
  pub books : All (IsSmallStock (length c.opening.traders) (exchange_of (full_run c.opening c.plan b)).counts.orders) (exchange_of (full_run c.opening c.plan b)).stocks
  pub matches : ℕ
  pub feed : All (IsSmallFeed (length c.opening.stocks) (exchange_of (full_run c.opening c.plan b)).counts.orders matches) (entries_feed (full_run c.opening c.plan b).entries)

pub tells-branch : (c : CourseTold) (b : ℕ) → IsSmallRun c b → All TellsBooks (branch_feed (branch_back c b))
tells-branch c b h =
    let o = c.opening in
    let r = full_run o c.plan b in
    let accepted = (exchange_of r).counts.orders in
    let own : All TellsBooks (entries_feed r.entries) = All-weaker (IsSmallFeed (length o.stocks) accepted h.matches) TellsBooks (λ m. small-tells (length o.stocks) accepted h.matches m h.listed h.few) (entries_feed r.entries) h.feed in
    let last = system_event r.state.time 67 in
    All-append TellsBooks (opening_feed o) (entries_feed (branch_back c b).entries ++ last ∷ []) (tells-opening o h.listed)
    (All-push TellsBooks (entries_feed (branch_back c b).entries) last
    (subst (λ (feed : List Feed). All TellsBooks feed) (sym (same-feed r.entries)) own) (tells-system r.state.time 67))

pub comparable-branch : (c : CourseTold) (b : ℕ) → IsSmallRun c b → All IsComparable (branch_back c b).closing.orders
comparable-branch c b h =
    let x = exchange_of (full_run c.opening c.plan b) in
    comparable-orders (length c.opening.traders) x (length x.stocks) h.few (omega (arith, h.stocks, h.listed)) (omega arith) h.books
