-- An order that is accepted: what it needs of a sound stock, and the state that it leaves.
use Rattle.std.proofs.Common.{◌≡◌, ℕ, zero, suc, ◌+◌, ◌<◌, ◌≤◌, ◌*◌, ◌^◌, Bool, true, false, ◌&&◌, ◌==◌, ℤ, pos, List, [], ◌∷◌, ◌++◌, map, length, slice_index_or, slice_set, All, arith, ap, subst, sym, ◌∙◌, refl}
use Rattle.std.specs.Prelude.{nat_le, bytes_eq}
use Rattle.std.proofs.lemmas.Bool.Decides.{nat_tests}
use Rattle.std.proofs.lemmas.List.{map-set}
use Rattle.std.proofs.lemmas.List.Elements.{All-weaker}
use Rattle.std.proofs.lemmas.Slice.Eq.{bytes_eq-Decides}
use Rattle.market_types.specs.declared.feed.Feed.{Feed}
use Rattle.market_types.specs.declared.message.Body.TheVariants.{Answer}
use Rattle.market_types.specs.declared.order.Enter.{Enter}
use Rattle.market_types.specs.declared.order.Token.{Token}
use Rattle.price_time_book.specs.declared.resting.Resting.{Resting}
use Rattle.exchange_agent.specs.declared.handled.Outgoing.{Outgoing}
use Rattle.exchange_agent.specs.declared.listing.Listing.{Listing}
use Rattle.exchange_agent.specs.declared.pair.Pair.{Pair}
use Rattle.exchange_agent.specs.declared.settle.Taking.{Taking}
use Rattle.exchange_agent.specs.declared.told.Counts.{Counts}
use Rattle.exchange_agent.specs.Enter.{acceptance_of, accepted, remembering, taking_of, way_from, way_of}
use Rattle.exchange_agent.specs.Pairs.{has_pair, pair_of, with_pair}
use Rattle.exchange_agent.specs.Settle.{Way}
use Rattle.exchange_agent.specs.Sound.{IsSmall, IsSoundStock, IsWithin, is_known, is_trader}
use Rattle.exchange_agent.specs.State.{State, Stock, no_stock}
use Rattle.exchange_agent.specs.View.{state_of, stock_of, way_at}
use Rattle.exchange_agent.specs.declared.handled.Handled.{Handled}
use Rattle.market_types.specs.Room.{Room}
use Rattle.std.proofs.lemmas.Int.{ints}
use Rattle.exchange_agent.proofs.Knowns.{and-first, and-second, known-pair, known-reference, known-trader}
use Rattle.exchange_agent.proofs.States.{at-map}
use Rattle.exchange_agent.proofs.Withins.{all-within, within-more}

pub traders-known : (agents orders : ℕ) (pairs : List Pair) (book : List Resting) → All (λ (o : Resting). is_known agents orders pairs o ≡ true) book → All (λ (o : Resting). is_trader agents o ≡ true) book
traders-known agents orders pairs book h = All-weaker (λ (o : Resting). is_known agents orders pairs o ≡ true) (λ (o : Resting). is_trader agents o ≡ true) (λ o e. known-trader agents orders pairs o e) book h

before : (n orders : ℕ) → nat_le n orders ≡ true → n < orders + 1
before n orders e = grind (arith, nat_tests)

pub later-known : (agents orders : ℕ) (pairs : List Pair) (book : List Resting) → All (λ (o : Resting). is_known agents orders pairs o ≡ true) book → All (λ (o : Resting). o.reference < orders + 1) book
later-known agents orders pairs book h = All-weaker (λ (o : Resting). is_known agents orders pairs o ≡ true) (λ (o : Resting). o.reference < orders + 1) (λ o e. before o.reference orders (known-reference agents orders pairs o e)) book h

same_agent : (m n : ℕ) → (m == n) ≡ true → m ≡ n
same_agent m n e = grind (arith, nat_tests)

-- an order whose pair is remembered has another pair than one that is not
differs : (agent : ℕ) (token : Token) (pairs : List Pair) (o : Resting) (b : Bool) → ((o.agent == agent) && bytes_eq o.token.0 token.0) ≡ b → has_pair (pair_of o.agent o.token) pairs ≡ true → has_pair (pair_of agent token) pairs ≡ false → b ≡ false
differs agent token pairs o false e known new = refl
differs agent token pairs o true e known new =
    let agents : o.agent ≡ agent = same_agent o.agent agent (and-first (o.agent == agent) (bytes_eq o.token.0 token.0) e) in
    let tokens : o.token.0 ≡ token.0 = (bytes_eq-Decides o.token.0 token.0).0 (and-second (o.agent == agent) (bytes_eq o.token.0 token.0) e) in
    let same : pair_of o.agent o.token ≡ pair_of agent token = ap (λ (n : ℕ). pair_of n o.token) agents ∙ ap (λ (t : List ℕ). record { agent = agent; token = t }) tokens in
    let there : has_pair (pair_of agent token) pairs ≡ true = subst (λ (p : Pair). has_pair p pairs ≡ true) same known in
    sym there ∙ new

pub lacks-known : (agents orders agent : ℕ) (token : Token) (pairs : List Pair) (book : List Resting) → has_pair (pair_of agent token) pairs ≡ false → All (λ (o : Resting). is_known agents orders pairs o ≡ true) book → All (λ (o : Resting). ((o.agent == agent) && bytes_eq o.token.0 token.0) ≡ false) book
lacks-known agents orders agent token pairs book new h =
    All-weaker (λ (o : Resting). is_known agents orders pairs o ≡ true) (λ (o : Resting). ((o.agent == agent) && bytes_eq o.token.0 token.0) ≡ false)
    (λ o e. differs agent token pairs o ((o.agent == agent) && bytes_eq o.token.0 token.0) refl (known-pair agents orders pairs o e) new) book h

-- what a way starts from
pub small-start : (agents orders : ℕ) (pairs : List Pair) (w : Way) → IsSoundStock agents orders pairs w.stock → All (IsWithin (2 ^ 63 + 2 ^ 61 * orders)) w.cash → w.matches ≤ 1000000 * orders → IsWithin 0 w.fee → IsSmall orders 0 w
small-start agents orders pairs w h cash matches fee = record {
  cash = all-within (2 ^ 63 + 2 ^ 61 * orders) (2 ^ 63 + 2 ^ 61 * orders + 2 ^ 41 * 0) w.cash (omega arith) cash;
  matches = omega (arith, matches);
  matched = omega (arith, h.matched);
  taken = within-more (2 ^ 53 * orders) (2 ^ 53 * orders + 2 ^ 32 * 0) w.stock.tally.taken (omega arith) h.taken;
  positions = all-within (2000000 * orders) (2000000 * orders + 2 * 0) w.stock.tally.positions (omega arith) h.positions;
  fee = within-more 0 (2 ^ 32 * 0) w.fee (omega arith) fee;
}

-- and what it has come to at its end
pub sound-traded : (agents orders shares : ℕ) (pairs : List Pair) (w : Way) → shares < 1000000 → IsSmall orders shares w → All (λ (o : Resting). is_known agents (orders + 1) pairs o ≡ true) w.stock.book → length w.stock.book ≤ orders + 1 → length w.stock.tally.positions ≡ agents → IsSoundStock agents (orders + 1) pairs w.stock
sound-traded agents orders shares pairs w few h known fit traders = record {
  known = known;
  few = fit;
  traders = traders;
  matched = omega (arith, h.matched, few);
  taken = within-more (2 ^ 53 * orders + 2 ^ 32 * shares) (2 ^ 53 * (orders + 1)) w.stock.tally.taken (omega (arith, few)) h.taken;
  positions = all-within (2000000 * orders + 2 * shares) (2000000 * (orders + 1)) w.stock.tally.positions (omega (arith, few)) h.positions;
}

pub money-traded : (orders shares : ℕ) (w : Way) → shares < 1000000 → IsSmall orders shares w → All (IsWithin (2 ^ 63 + 2 ^ 61 * (orders + 1))) w.cash
money-traded orders shares w few h = all-within (2 ^ 63 + 2 ^ 61 * orders + 2 ^ 41 * shares) (2 ^ 63 + 2 ^ 61 * (orders + 1)) w.cash (omega (arith, few)) h.cash

-- the way in the code is the way of the definition
pub way-accepted : (s : State) (stocks : List Listing) (cash : List ℤ) (pairs : List Pair) (counts : Counts) (hidden : Bool) (time agent : ℕ) (e : Enter) (k : ℕ) (r : Listing) (v : Way) → s ≡ state_of stocks cash pairs counts hidden → k < length stocks → r ≡ slice_index_or stocks k r → v ≡ way_of (taking_of time agent e k) e (counts.orders + 1) (record { stock = stock_of r; cash = cash; matches = counts.matches; replies = record { to = agent; body = Answer (acceptance_of time e (counts.orders + 1)) } ∷ []; feed = []; fee = pos 0 }) → v ≡ way_of (taking_of time agent e k) e (s.counts.orders + 1) (way_from (remembering s agent e) time agent e k)
way-accepted s stocks cash pairs counts hidden time agent e k r v is-s in-stocks at way =
    way
    ∙ ap (λ (x : Stock). way_of (taking_of time agent e k) e (counts.orders + 1) (record { stock = x; cash = cash; matches = counts.matches; replies = record { to = agent; body = Answer (acceptance_of time e (counts.orders + 1)) } ∷ []; feed = []; fee = pos 0 })) (sym (at-map stocks k r no_stock in-stocks at))
    ∙ ap (λ (q : State). way_of (taking_of time agent e k) e (q.counts.orders + 1) (way_from (remembering q agent e) time agent e k)) (sym is-s)

-- the state in the code is the state of the definition
pub state-accepted : (s : State) (stocks : List Listing) (cash cash-after : List ℤ) (pairs pairs-after : List Pair) (counts counts-after : Counts) (hidden : Bool) (time agent : ℕ) (e : Enter) (k : ℕ) (l : Listing) (v : Way) → s ≡ state_of stocks cash pairs counts hidden → pairs-after ≡ with_pair (pair_of agent e.token) pairs → counts-after ≡ record counts { orders = counts.orders + 1; matches = v.matches } → stock_of l ≡ v.stock → cash-after ≡ v.cash → v ≡ way_of (taking_of time agent e k) e (s.counts.orders + 1) (way_from (remembering s agent e) time agent e k) → state_of (slice_set stocks k l) cash-after pairs-after counts-after hidden ≡ (accepted (remembering s agent e) time agent e k).state
state-accepted s stocks cash cash-after pairs pairs-after counts counts-after hidden time agent e k l v is-s is-pairs is-counts is-stock is-cash way =
    let made : Way → State → State = λ (w : Way) (q : State). record { stocks = slice_set q.stocks k w.stock; cash = w.cash; pairs = with_pair (pair_of agent e.token) q.pairs; counts = record q.counts { orders = q.counts.orders + 1; matches = w.matches }; hidden = q.hidden } in
    let stocks-are : map stock_of (slice_set stocks k l) ≡ slice_set (map stock_of stocks) k v.stock = map-set stock_of stocks k l ∙ ap (λ (x : Stock). slice_set (map stock_of stocks) k x) is-stock in
    let here : state_of (slice_set stocks k l) cash-after pairs-after counts-after hidden ≡ made v (state_of stocks cash pairs counts hidden) =
    ap (λ (xs : List Stock). record { stocks = xs; cash = cash-after; pairs = pairs-after; counts = counts-after; hidden = hidden }) stocks-are
    ∙ ap (λ (xs : List ℤ). record { stocks = slice_set (map stock_of stocks) k v.stock; cash = xs; pairs = pairs-after; counts = counts-after; hidden = hidden }) is-cash
    ∙ ap (λ (ps : List Pair). record { stocks = slice_set (map stock_of stocks) k v.stock; cash = v.cash; pairs = ps; counts = counts-after; hidden = hidden }) is-pairs
    ∙ ap (λ (n : Counts). record { stocks = slice_set (map stock_of stocks) k v.stock; cash = v.cash; pairs = with_pair (pair_of agent e.token) pairs; counts = n; hidden = hidden }) is-counts in
    here ∙ ap (λ (q : State). made v q) (sym is-s) ∙ ap (λ (w : Way). made w s) way

-- a way that starts with nothing told
pub way-clean : (t : Taking) (e : Enter) (n : ℕ) (stock : Stock) (cash : List ℤ) (matches : ℕ) (reply : Outgoing) (replies : List Outgoing) (feed : List Feed) (fee : ℤ) → replies ≡ [] → feed ≡ [] → fee ≡ pos 0 → way_of t e n (record { stock = stock; cash = cash; matches = matches; replies = replies ++ reply ∷ []; feed = feed; fee = fee }) ≡ way_of t e n (record { stock = stock; cash = cash; matches = matches; replies = reply ∷ []; feed = []; fee = pos 0 })
way-clean t e n stock cash matches reply replies feed fee no-replies no-feed no-fee =
    ap (λ (rs : List Outgoing). way_of t e n (record { stock = stock; cash = cash; matches = matches; replies = rs ++ reply ∷ []; feed = feed; fee = fee })) no-replies
    ∙ ap (λ (fs : List Feed). way_of t e n (record { stock = stock; cash = cash; matches = matches; replies = reply ∷ []; feed = fs; fee = fee })) no-feed
    ∙ ap (λ (x : ℤ). way_of t e n (record { stock = stock; cash = cash; matches = matches; replies = reply ∷ []; feed = []; fee = x })) no-fee

set-same : (xs : List Listing) (k : ℕ) (r : Listing) → r ≡ slice_index_or xs k r → slice_set xs k r ≡ xs
set-same [] k r e = refl
set-same (x ∷ xs) zero r e = ap (λ (y : Listing). y ∷ xs) e
set-same (x ∷ xs) (suc k) r e = ap (λ (ys : List Listing). x ∷ ys) (set-same xs k r e)

-- the state where all parts are as they were
pub state-refused : (stocks : List Listing) (cash cash-after : List ℤ) (pairs pairs-after : List Pair) (counts counts-after : Counts) (hidden : Bool) (k : ℕ) (r l : Listing) → r ≡ slice_index_or stocks k r → stock_of l ≡ stock_of r → cash-after ≡ cash → pairs-after ≡ pairs → counts-after ≡ counts → state_of (slice_set stocks k l) cash-after pairs-after counts-after hidden ≡ state_of stocks cash pairs counts hidden
state-refused stocks cash cash-after pairs pairs-after counts counts-after hidden k r l at is-stock is-cash is-pairs is-counts =
    let stocks-are : map stock_of (slice_set stocks k l) ≡ map stock_of stocks =
    map-set stock_of stocks k l ∙ ap (λ (x : Stock). slice_set (map stock_of stocks) k x) is-stock ∙ sym (map-set stock_of stocks k r) ∙ ap (λ (xs : List Listing). map stock_of xs) (set-same stocks k r at) in
    ap (λ (xs : List Stock). record { stocks = xs; cash = cash-after; pairs = pairs-after; counts = counts-after; hidden = hidden }) stocks-are
    ∙ ap (λ (xs : List ℤ). record { stocks = map stock_of stocks; cash = xs; pairs = pairs-after; counts = counts-after; hidden = hidden }) is-cash
    ∙ ap (λ (ps : List Pair). record { stocks = map stock_of stocks; cash = cash; pairs = ps; counts = counts-after; hidden = hidden }) is-pairs
    ∙ ap (λ (n : Counts). record { stocks = map stock_of stocks; cash = cash; pairs = pairs; counts = n; hidden = hidden }) is-counts

none-within : (x : ℤ) → x ≡ pos 0 → IsWithin 0 x
none-within x e = record { low = omega (arith, ints, e); high = omega (arith, ints, e) }

-- a sound stock whose book keeps places, before the first match of an order
pub started : (listing : Listing) (book : Room Resting) (cash : List ℤ) (pairs : List Pair) (orders matches : ℕ) (out : Handled) → IsSoundStock (length cash) orders pairs (stock_of listing) → book.list ≡ listing.book.list → All (IsWithin (2 ^ 63 + 2 ^ 61 * orders)) cash → matches ≤ 1000000 * orders → out.fee ≡ pos 0 → IsSmall orders 0 (way_at (record listing { book = book }) cash matches out)
started listing book cash pairs orders matches out sound same money few fee =
    let w = way_at (record listing { book = book }) cash matches out in
    let here : IsSoundStock (length cash) orders pairs w.stock = subst (λ (b : List Resting). IsSoundStock (length cash) orders pairs (record (stock_of listing) { book = b })) (sym same) sound in
    small-start (length cash) orders pairs w here money few (none-within out.fee fee)
