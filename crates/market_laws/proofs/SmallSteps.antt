-- One message or change: ranges stay, and what matches is told.
use Rattle.std.proofs.Common.{◌≡◌, ◌≢◌, inl, inr, ℕ, zero, suc, ◌+◌, ◌-◌, ◌*◌, ◌<◌, ◌≤◌, Bool, true, false, List, [], ◌∷◌, length, All, Option, Some, None, arith, refl, subst, ap, sym, ◌∙◌, slice_index_or, slice_set}
use Rattle.std.specs.Prelude.{◌==◌, nat_lt, if◌then◌else◌}
use Rattle.std.proofs.lemmas.Bool.{false≢true}
use Rattle.std.proofs.lemmas.Bool.Decides.{nat_tests}
use Rattle.std.proofs.lemmas.List.{length-set}
use Rattle.std.proofs.lemmas.List.Elements.{All-set, All-weaker, recursion_from_All}
use Rattle.std.proofs.lemmas.List.Quantifiers.{position-Some}
use Rattle.std.proofs.lemmas.List.Sums.{get_or-le-sum_by, sum_by-set}
use Rattle.market_types.specs.Limits.{highest_price}
use Rattle.market_types.specs.declared.feed.Feed.{Feed}
use Rattle.market_types.specs.declared.feed.What.TheVariants as what
use Rattle.market_types.specs.declared.message.Body.{Body}
use Rattle.market_types.specs.declared.message.Body.TheVariants as body
use Rattle.market_types.specs.declared.order.Cancel.{Cancel}
use Rattle.market_types.specs.declared.order.Enter.{Enter}
use Rattle.market_types.specs.declared.order.Inbound.TheVariants as inbound
use Rattle.market_rules.specs.declared.changes.Change.{Change}
use Rattle.market_rules.specs.declared.changes.Change.TheVariants as change
use Rattle.price_time_book.specs.declared.resting.Resting.{Resting}
use Rattle.price_time_book.specs.Orders.{changed, order_of, order_with, reduced}
use Rattle.exchange_agent.specs.declared.cancel.Found.{Found}
use Rattle.exchange_agent.specs.declared.verdict.Verdict.{Verdict}
use Rattle.exchange_agent.specs.declared.verdict.Verdict.TheVariants.{Ignored, Forgotten, Refused, Accepted}
use Rattle.exchange_agent.specs.Cancel.{cancel_of, canceled, found_from, lowered_feed, open_of, unheard}
use Rattle.exchange_agent.specs.Changes.{Changed, changed_by, turned}
use Rattle.exchange_agent.specs.Enter.{accepted, entered_by, remembering, taking_of, verdict_of, way_from, way_of}
use Rattle.exchange_agent.specs.Market.{market}
use Rattle.exchange_agent.specs.Outcome.{Outcome}
use Rattle.exchange_agent.specs.State.{State, Stock, Tally, no_stock, resting_over, stands_still, stock_at, trades, with_stock}
use Rattle.market_laws.specs.Executed.{executed_in}
use Rattle.market_laws.specs.Small.{IsSmallFeed, IsTradingState, IsUpTo, most_resting, most_shares}
use Rattle.market_laws.proofs.SmallCancels.{found-passes, found-there}
use Rattle.market_laws.proofs.SmallEnters.{IsFitEnd, fit-end}
use Rattle.market_laws.proofs.SmallFeeds.{IsQuiet, lowered-quiet, no-feed, quiet-nil, trading-quiet}
use Rattle.market_laws.proofs.SmallFits.{BookLaws, IsFitBook, book-more, fit-from, fits-by-reduce, is_fit, is_sized, most-from, sizes-by-reduce}
use Rattle.market_laws.proofs.SmallVerdicts.{acceptable}

-- A stock whose orders are in their ranges, and which trades or is halted.
pub record IsFitStock (traders accepted : ℕ) (k : Stock) : Type 0 where
  pub book : IsFitBook traders accepted k.book
  pub state : IsTradingState k.trading
  pub last : k.tally.last ≤ highest_price
  pub matched : k.tally.matched ≤ most_shares * accepted

stock-more : (traders a b : ℕ) (k : Stock) → a ≤ b → IsFitStock traders a k → IsFitStock traders b k
stock-more traders a b k le h = record { book = book-more traders a b k.book le h.book; state = h.state; last = h.last; matched = omega (arith, le, h.matched) }

-- An exchange of so many such stocks among so many traders.
pub record IsFitExchange (traders stocks : ℕ) (s : State) : Type 0 where
  pub many : length s.stocks ≡ stocks
  pub each : All (IsFitStock traders s.counts.orders) s.stocks
  pub few : resting_over s.stocks ≤ most_resting
  pub ended : s.counts.matches + resting_over s.stocks ≤ s.counts.orders

-- What one message or change does, which has at most so many orders accepted and tells a feed.
pub record IsStep (traders stocks : ℕ) (s after : State) (told : List Feed) (most : ℕ) : Type 0 where
  pub kept : IsFitExchange traders stocks after
  pub grows : s.counts.orders ≤ after.counts.orders
  pub counted : after.counts.orders ≤ s.counts.orders + most
  pub more : s.counts.matches ≤ after.counts.matches
  pub feed : All (IsSmallFeed stocks after.counts.orders after.counts.matches) told
  pub matched : (j : ℕ) → (stock_at after j).tally.matched ≡ (stock_at s j).tally.matched + executed_in j told

-- ---- one stock becomes another

resting-set : (xs : List Stock) (k : ℕ) (x : Stock) → k < length xs → resting_over (slice_set xs k x) + length (slice_index_or xs k no_stock).book ≡ resting_over xs + length x.book
resting-set xs k x h = sum_by-set (λ (y : Stock). length y.book) xs k x no_stock h

few-at : (xs : List Stock) (k : ℕ) → k < length xs → length (slice_index_or xs k no_stock).book ≤ resting_over xs
few-at xs k h = get_or-le-sum_by (λ (y : Stock). length y.book) xs k no_stock h

here-set : (xs : List Stock) (k : ℕ) (x : Stock) → k < length xs → slice_index_or (slice_set xs k x) k no_stock ≡ x
here-set [] k x h = absurd (omega (arith, h))
here-set (y ∷ ys) zero x h = refl
here-set (y ∷ ys) (suc k) x h = here-set ys k x (omega (arith, h))

there-set : (xs : List Stock) (j k : ℕ) (x : Stock) → k ≢ j → slice_index_or (slice_set xs k x) j no_stock ≡ slice_index_or xs j no_stock
there-set [] j k x e = refl
there-set (y ∷ ys) zero zero x e = absurd (e refl)
there-set (y ∷ ys) zero (suc k) x e = refl
there-set (y ∷ ys) (suc j) zero x e = refl
there-set (y ∷ ys) (suc j) (suc k) x e = there-set ys j k x (λ q. e (ap (λ (n : ℕ). suc n) q))

same-from : (k j : ℕ) → (k + 1 == j + 1) ≡ true → k ≡ j
same-from k j e = grind (arith, nat_tests)

eq-self : (k : ℕ) → (k + 1 == k + 1) ≡ true
eq-self k = grind (arith, nat_tests)

not-from : (k j : ℕ) → (k + 1 == j + 1) ≡ false → k ≢ j
not-from k j e = λ (q : k ≡ j). absurd (false≢true (sym e ∙ subst (λ (i : ℕ). (k + 1 == i + 1) ≡ true) q (eq-self k)))

-- matched shares, where those told of the stock are what it has more, and none are told of others
matched-set : (xs : List Stock) (j k : ℕ) (x : Stock) (told : ℕ) (b : Bool) → k < length xs → (k + 1 == j + 1) ≡ b → (b ≡ true → x.tally.matched ≡ (slice_index_or xs k no_stock).tally.matched + told) → (b ≡ false → told ≡ 0) → (slice_index_or (slice_set xs k x) j no_stock).tally.matched ≡ (slice_index_or xs j no_stock).tally.matched + told
matched-set xs j k x told true in' e here there =
    let at : (slice_index_or (slice_set xs k x) k no_stock).tally.matched ≡ x.tally.matched = ap (λ (y : Stock). y.tally.matched) (here-set xs k x in') in
    let more : x.tally.matched ≡ (slice_index_or xs k no_stock).tally.matched + told = here refl in
    subst (λ (i : ℕ). (slice_index_or (slice_set xs k x) i no_stock).tally.matched ≡ (slice_index_or xs i no_stock).tally.matched + told) (same-from k j e) (at ∙ more)
matched-set xs j k x told false in' e here there =
    let at : (slice_index_or (slice_set xs k x) j no_stock).tally.matched ≡ (slice_index_or xs j no_stock).tally.matched = ap (λ (y : Stock). y.tally.matched) (there-set xs j k x (not-from k j e)) in
    let none : told ≡ 0 = there refl in
    omega (arith, at, none)

-- nothing but counts and remembered pairs changes
still : (traders stocks most : ℕ) (s after : State) → IsFitExchange traders stocks s → after.stocks ≡ s.stocks → after.counts.orders ≡ s.counts.orders → after.counts.matches ≡ s.counts.matches → IsStep traders stocks s after [] most
still traders stocks most s after kept same orders matches = record {
  kept = record {
    many = ap (λ (xs : List Stock). length xs) same ∙ kept.many;
    each = subst (λ (n : ℕ). All (IsFitStock traders n) after.stocks) (sym orders) (subst (λ (xs : List Stock). All (IsFitStock traders s.counts.orders) xs) (sym same) kept.each);
    few = subst (λ (xs : List Stock). resting_over xs ≤ most_resting) (sym same) kept.few;
    ended = let rest : resting_over after.stocks ≡ resting_over s.stocks = ap (λ (xs : List Stock). resting_over xs) same in omega (arith, kept.ended, orders, matches, rest);
  };
  grows = omega (arith, orders);
  counted = omega (arith, orders);
  more = omega (arith, matches);
  feed = no-feed stocks after.counts.orders after.counts.matches;
  matched = λ j. let at : (stock_at after j).tally.matched ≡ (stock_at s j).tally.matched = ap (λ (xs : List Stock). (slice_index_or xs j no_stock).tally.matched) same in omega (arith, at);
}

-- a stock's book or rules change, and no matches are told
moved : (traders stocks most : ℕ) (s : State) (k : ℕ) (x : Stock) (feed : List Feed) → IsFitExchange traders stocks s → k < length s.stocks → IsFitStock traders s.counts.orders x → length x.book ≤ length (stock_at s k).book → x.tally.matched ≡ (stock_at s k).tally.matched → IsQuiet stocks s.counts.orders s.counts.matches feed → IsStep traders stocks s (with_stock s k x) feed most
moved traders stocks most s k x feed kept in' stock fewer tally quiet =
    let rests = resting-set s.stocks k x in' in
    let few : resting_over s.stocks ≤ most_resting = kept.few in
    record {
      kept = record {
        many = length-set s.stocks k x ∙ kept.many;
        each = All-set (IsFitStock traders s.counts.orders) s.stocks k x stock kept.each;
        few = omega (arith, rests, fewer, few);
        ended = omega (arith, rests, fewer, kept.ended);
      };
      grows = omega arith;
      counted = omega arith;
      more = omega arith;
      feed = quiet.small;
      matched = λ j. let none : executed_in j feed ≡ 0 = quiet.none j in matched-set s.stocks j k x (executed_in j feed) (k + 1 == j + 1) in' refl (λ e. omega (arith, tally, none)) (λ e. none);
    }

-- ---- an Enter

accepted-step : (laws : BookLaws) (traders stocks : ℕ) (s : State) (time agent : ℕ) (e : Enter) (k : ℕ) → IsFitExchange traders stocks s → IsUpTo traders agent → verdict_of s agent e ≡ Accepted k → IsStep traders stocks s (accepted (remembering s agent e) time agent e k).state (accepted (remembering s agent e) time agent e k).feed 1
accepted-step laws traders stocks s time agent e k kept trader is =
    let n = s.counts.orders in
    let ok = acceptable s agent e k is in
    let place = position-Some _ s.stocks k no_stock ok.number in
    let in' : k < length s.stocks = place.0 in
    let many : length s.stocks ≡ stocks = kept.many in
    let x = stock_at s k in
    let old : IsFitStock traders n x = kept.each k no_stock in' in
    let here : IsFitBook traders n x.book = old.book in
    let fewer : length x.book ≤ resting_over s.stocks = few-at s.stocks k in' in
    let room : resting_over s.stocks < 16384 = ok.room in
    let t = taking_of time agent e k in
    let w = way_from (remembering s agent e) time agent e k in
    let z = way_of t e (n + 1) w in
    let locate : IsUpTo stocks (k + 1) = (omega arith, omega (arith, in', many)) in
    let h : IsFitEnd traders stocks n (k + 1) w z = fit-end laws traders stocks n t e w locate trader ok.price ok.shares.1 (omega (arith, fewer, room)) here (no-feed stocks (n + 1) w.matches) in
    let rests = resting-set s.stocks k z.stock in' in
    let longer : length z.stock.book ≤ length x.book + 1 = h.few in
    let ended : z.matches + length z.stock.book ≤ s.counts.matches + length x.book + 1 = h.ended in
    record {
      kept = record {
        many = length-set s.stocks k z.stock ∙ kept.many;
        each = All-set (IsFitStock traders (n + 1)) s.stocks k z.stock (record { book = h.book; state = subst IsTradingState (sym h.state) old.state; last = h.last old.last; matched = omega (arith, h.matched, old.matched) }) (All-weaker (IsFitStock traders n) (IsFitStock traders (n + 1)) (λ y b. stock-more traders n (n + 1) y (omega arith) b) s.stocks kept.each);
        few = omega (arith, rests, longer, room);
        ended = omega (arith, rests, ended, kept.ended);
      };
      grows = omega arith;
      counted = omega arith;
      more = h.grows;
      feed = h.feed;
      matched = λ j. matched-set s.stocks j k z.stock (executed_in j z.feed) (k + 1 == j + 1) in' refl
          (λ q. let told : executed_in j z.feed + x.tally.matched ≡ 0 + z.stock.tally.matched = h.here j q in omega (arith, told))
          (λ q. h.there j q);
    }

entered-step : (laws : BookLaws) (traders stocks : ℕ) (s : State) (time agent : ℕ) (e : Enter) (v : Verdict) → IsFitExchange traders stocks s → IsUpTo traders agent → verdict_of s agent e ≡ v → IsStep traders stocks s (entered_by s time agent e v).state (entered_by s time agent e v).feed 1
entered-step laws traders stocks s time agent e Ignored kept trader is = still traders stocks 1 s (entered_by s time agent e Ignored).state kept refl refl refl
entered-step laws traders stocks s time agent e (Forgotten reason) kept trader is = still traders stocks 1 s (entered_by s time agent e (Forgotten reason)).state kept refl refl refl
entered-step laws traders stocks s time agent e (Refused reason) kept trader is = still traders stocks 1 s (entered_by s time agent e (Refused reason)).state kept refl refl refl
entered-step laws traders stocks s time agent e (Accepted k) kept trader is = accepted-step laws traders stocks s time agent e k kept trader is

-- ---- a Cancel

lower-left : (shares intended left : ℕ) → shares < intended → left ≤ intended → 0 < left → shares - (intended - left) < left
lower-left shares intended left a b c = omega (arith, a, b, c)

canceled-step : (laws : BookLaws) (traders stocks : ℕ) (s : State) (time agent : ℕ) (c : Cancel) (f : Found) → IsFitExchange traders stocks s → found_from 0 agent c.token s.stocks ≡ Some f → c.shares < f.order.intended → IsStep traders stocks s (canceled s time agent c f.stock f.order).state (canceled s time agent c f.stock f.order).feed 1
canceled-step laws traders stocks s time agent c f kept is below =
    let n = s.counts.orders in
    let k = f.stock in
    let o = f.order in
    let x = stock_at s k in
    let at = found-there agent c.token s.stocks f is in
    let in' : k < length s.stocks = at.0 in
    let many : length s.stocks ≡ stocks = kept.many in
    let held : order_of agent c.token x.book ≡ Some o = at.1 in
    let old : IsFitStock traders n x = kept.each k no_stock in' in
    let here : IsFitBook traders n x.book = old.book in
    let live : 0 < o.left = found-passes _ (λ (y : Resting). 0 < y.left) x.book o held here.orderly.live in
    let within : o.left ≤ o.intended = found-passes _ (λ (y : Resting). y.left ≤ y.intended) x.book o held here.orderly.within in
    let fit = fit-from traders n o (found-passes _ (λ (y : Resting). is_fit traders n y ≡ true) x.book o held (recursion_from_All (λ (y : Resting). is_fit traders n y ≡ true) x.book here.fits)) in
    let sized : o.intended ≤ most_shares = most-from most_shares o.intended (found-passes _ (λ (y : Resting). is_sized y ≡ true) x.book o held (recursion_from_All (λ (y : Resting). is_sized y ≡ true) x.book here.sizes)) in
    let by : order_with o.reference x.book ≡ Some o = laws.by-reference agent c.token x.book o here.orderly held in
    let left = open_of o c.shares in
    let fewer : left < o.left = lower-left c.shares o.intended o.left below within live in
    let le : left ≤ o.left = omega (arith, fewer) in
    let after = changed (reduced left o) x.book in
    let locate : IsUpTo stocks (k + 1) = (omega arith, omega (arith, in', many)) in
    moved traders stocks 1 s k (record x { book = after }) (lowered_feed (k + 1) time o left) kept in'
    (record {
      book = record {
        orderly = laws.lowered o.reference left x.book o here.orderly by fewer;
        fits = laws.lower-tested (is_fit traders n) (fits-by-reduce traders n) o.reference left x.book o by le here.fits;
        sizes = laws.lower-tested is_sized sizes-by-reduce o.reference left x.book o by le here.sizes;
      };
      state = old.state;
      last = old.last;
      matched = old.matched;
    })
    (laws.lower-few (reduced left o) x.book) refl
    (lowered-quiet stocks n s.counts.matches (k + 1) time o left locate fit.reference fewer (omega (arith, within, sized)))

abbrev cancel-by : Bool → State → ℕ → ℕ → Cancel → Found → Outcome
cancel-by b s time agent c f = if b then canceled s time agent c f.stock f.order else unheard s

below-from : (m n : ℕ) → nat_lt m n ≡ true → m < n
below-from m n e = grind (arith, nat_tests)

cancel-step : (laws : BookLaws) (traders stocks : ℕ) (s : State) (time agent : ℕ) (c : Cancel) (f : Option Found) → IsFitExchange traders stocks s → found_from 0 agent c.token s.stocks ≡ f → IsStep traders stocks s (cancel_of s time agent c f).state (cancel_of s time agent c f).feed 1
cancel-step laws traders stocks s time agent c None kept is = still traders stocks 1 s (unheard s).state kept refl refl refl
cancel-step laws traders stocks s time agent c (Some f) kept is =
    elim (nat_lt c.shares f.order.intended) as (λ b. nat_lt c.shares f.order.intended ≡ b → IsStep traders stocks s (cancel-by b s time agent c f).state (cancel-by b s time agent c f).feed 1) [
      | true ↦ λ e. canceled-step laws traders stocks s time agent c f kept is (below-from c.shares f.order.intended e)
      | false ↦ λ e. still traders stocks 1 s (unheard s).state kept refl refl refl
    ] refl

-- ---- any message

pub message-step : (laws : BookLaws) (traders stocks : ℕ) (s : State) (time agent : ℕ) (b : Body) → IsFitExchange traders stocks s → IsUpTo traders agent → IsStep traders stocks s (market s time agent b).state (market s time agent b).feed 1
message-step laws traders stocks s time agent (body.Order (inbound.Enter e)) kept trader = entered-step laws traders stocks s time agent e (verdict_of s agent e) kept trader refl
message-step laws traders stocks s time agent (body.Order (inbound.Cancel c)) kept trader = cancel-step laws traders stocks s time agent c (found_from 0 agent c.token s.stocks) kept refl
message-step laws traders stocks s time agent (body.Ask k) kept trader = still traders stocks 1 s s kept refl refl refl
message-step laws traders stocks s time agent body.Wake kept trader = still traders stocks 1 s s kept refl refl refl
message-step laws traders stocks s time agent (body.Answer r) kept trader = still traders stocks 1 s s kept refl refl refl
message-step laws traders stocks s time agent (body.Quote q) kept trader = still traders stocks 1 s s kept refl refl refl

-- ---- a change of rules

ruled : (traders stocks : ℕ) (s : State) (k : ℕ) (x : Stock) (feed : List Feed) → IsFitExchange traders stocks s → k < length s.stocks → x.book ≡ (stock_at s k).book → x.tally ≡ (stock_at s k).tally → IsTradingState x.trading → IsQuiet stocks s.counts.orders s.counts.matches feed → IsStep traders stocks s (with_stock s k x) feed 0
ruled traders stocks s k x feed kept in' is-book is-tally state quiet =
    let old : IsFitStock traders s.counts.orders (stock_at s k) = kept.each k no_stock in' in
    let book : IsFitBook traders s.counts.orders x.book = subst (λ (b : List Resting). IsFitBook traders s.counts.orders b) (sym is-book) old.book in
    let same : length x.book ≡ length (stock_at s k).book = ap (λ (b : List Resting). length b) is-book in
    moved traders stocks 0 s k x feed kept in'
    (record {
      book = book;
      state = state;
      last = subst (λ (t : Tally). t.last ≤ highest_price) (sym is-tally) old.last;
      matched = subst (λ (t : Tally). t.matched ≤ most_shares * s.counts.orders) (sym is-tally) old.matched;
    })
    (omega (arith, same)) (ap (λ t. t.matched) is-tally) quiet

abbrev turned-way : Bool → State → ℕ → ℕ → ℕ → Changed
turned-way b s time k letter =
    if b then record { state = s; feed = [] }
    else record {
      state = with_stock s k (record (stock_at s k) { trading = letter });
      feed = record { locate = k + 1; tracking = 0; time = time; what = what.Trading (stock_at s k).symbol letter 32 (32 ∷ 32 ∷ 32 ∷ 32 ∷ []) } ∷ [];
    }

turn-step : (traders stocks : ℕ) (s : State) (time k letter : ℕ) → IsFitExchange traders stocks s → k < length s.stocks → IsTradingState letter → IsStep traders stocks s (turned s time k letter).state (turned s time k letter).feed 0
turn-step traders stocks s time k letter kept in' is =
    let many : length s.stocks ≡ stocks = kept.many in
    let locate : IsUpTo stocks (k + 1) = (omega arith, omega (arith, in', many)) in
    elim ((stock_at s k).trading == letter) as (λ b. IsStep traders stocks s (turned-way b s time k letter).state (turned-way b s time k letter).feed 0) [
      | true ↦ still traders stocks 0 s s kept refl refl refl
      | false ↦ ruled traders stocks s k (record (stock_at s k) { trading = letter }) (turned-way false s time k letter).feed kept in' refl refl is (trading-quiet stocks s.counts.orders s.counts.matches (k + 1) time letter (stock_at s k).symbol locate is)
    ]

pub change-step : (traders stocks : ℕ) (s : State) (time k : ℕ) (c : Change) → IsFitExchange traders stocks s → k < stocks → IsStep traders stocks s (changed_by s time k c).state (changed_by s time k c).feed 0
change-step traders stocks s time k (change.Tick bands) kept h = let many : length s.stocks ≡ stocks = kept.many in let in' : k < length s.stocks = omega (arith, h, many) in ruled traders stocks s k (record (stock_at s k) { bands = bands }) [] kept in' refl refl (kept.each k no_stock in').state (quiet-nil stocks s.counts.orders s.counts.matches)
change-step traders stocks s time k (change.Fee fees) kept h = let many : length s.stocks ≡ stocks = kept.many in let in' : k < length s.stocks = omega (arith, h, many) in ruled traders stocks s k (record (stock_at s k) { fees = fees }) [] kept in' refl refl (kept.each k no_stock in').state (quiet-nil stocks s.counts.orders s.counts.matches)
change-step traders stocks s time k change.Halt kept h = let many : length s.stocks ≡ stocks = kept.many in turn-step traders stocks s time k stands_still kept (omega (arith, h, many)) (inr refl)
change-step traders stocks s time k change.Resume kept h = let many : length s.stocks ≡ stocks = kept.many in turn-step traders stocks s time k trades kept (omega (arith, h, many)) (inl refl)
