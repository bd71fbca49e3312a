-- Whole runs from an opening.
use Rattle.std.proofs.Common.{◌≡◌, inl, ℕ, zero, suc, ◌+◌, ◌<◌, ◌≤◌, ℤ, List, [], ◌∷◌, map, length, All, arith, refl, slice_index_or, Bool}
use Rattle.std.specs.List.{AllByRecursion}
use Rattle.std.proofs.lemmas.List.{length-map}
use Rattle.std.proofs.lemmas.List.Elements.{All-append, All-map, All-weaker}
use Rattle.std.proofs.lemmas.List.Sums.{get_or-le-sum_by, sum_by-cons}
use Rattle.exchange_agent.specs.declared.told.StockRules.{StockRules}
use Rattle.exchange_agent.specs.Open.{listed, opened}
use Rattle.exchange_agent.specs.Runs.{Act, message, change, IsPossible, run, state_after}
use Rattle.exchange_agent.specs.State.{State, Stock, no_stock, resting_over, stock_at}
use Rattle.market_laws.specs.Executed.{executed_in}
use Rattle.market_laws.specs.Feeds.{feed_by, feed_over}
use Rattle.market_laws.specs.Messages.{messages_in}
use Rattle.market_laws.specs.Small.{IsSmallExchange, IsSmallFeed, IsSmallStock, most_resting}
use Rattle.market_laws.proofs.SmallFeeds.{executed-append, feed-more, no-feed}
use Rattle.market_laws.proofs.SmallFits.{BookLaws, book-nil, small-orders}
use Rattle.market_laws.proofs.SmallSteps.{IsFitExchange, IsFitStock, IsStep, change-step, message-step}

act-step : (laws : BookLaws) (traders stocks : ℕ) (s : State) (a : Act) → IsFitExchange traders stocks s → IsPossible traders stocks a → IsStep traders stocks s (state_after s a) (feed_by s a) (messages_in (a ∷ []))
act-step laws traders stocks s (message time from b) kept h = message-step laws traders stocks s time from b kept h
act-step laws traders stocks s (change time k c) kept h = change-step traders stocks s time k c kept h

messages-more : (a : Act) (acts : List Act) → messages_in (a ∷ acts) ≡ messages_in (a ∷ []) + messages_in acts
messages-more (message time from b) acts = omega arith
messages-more (change time k c) acts = omega arith

-- What holds of a run from any exchange whose orders are in their ranges.
pub record IsRun (traders stocks : ℕ) (s : State) (acts : List Act) : Type 0 where
  pub kept : IsFitExchange traders stocks (run s acts)
  pub grows : s.counts.orders ≤ (run s acts).counts.orders
  pub counted : (run s acts).counts.orders ≤ s.counts.orders + messages_in acts
  pub more : s.counts.matches ≤ (run s acts).counts.matches
  pub feed : All (IsSmallFeed stocks (run s acts).counts.orders (run s acts).counts.matches) (feed_over s acts)
  pub matched : (j : ℕ) → (stock_at (run s acts) j).tally.matched ≡ (stock_at s j).tally.matched + executed_in j (feed_over s acts)

run-is : (laws : BookLaws) (traders stocks : ℕ) (s : State) (acts : List Act) → IsFitExchange traders stocks s → AllByRecursion (IsPossible traders stocks) acts → IsRun traders stocks s acts
run-is laws traders stocks s [] kept h = record { kept = kept; grows = omega arith; counted = omega arith; more = omega arith; feed = no-feed stocks s.counts.orders s.counts.matches; matched = λ j. omega arith }
run-is laws traders stocks s (a ∷ acts) kept h =
    let next = state_after s a in
    let one : IsStep traders stocks s next (feed_by s a) (messages_in (a ∷ [])) = act-step laws traders stocks s a kept h.0 in
    let rest : IsRun traders stocks next acts = run-is laws traders stocks next acts one.kept h.1 in
    let counts : messages_in (a ∷ acts) ≡ messages_in (a ∷ []) + messages_in acts = messages-more a acts in
    let last = (run next acts).counts in
    record {
      kept = rest.kept;
      grows = omega (arith, one.grows, rest.grows);
      counted = omega (arith, one.counted, rest.counted, counts);
      more = omega (arith, one.more, rest.more);
      feed = All-append (IsSmallFeed stocks last.orders last.matches) (feed_by s a) (feed_over next acts) (feed-more stocks next.counts.orders last.orders next.counts.matches last.matches (feed_by s a) rest.grows rest.more one.feed) rest.feed;
      matched = λ j. omega (arith, one.matched j, rest.matched j, executed-append j (feed_by s a) (feed_over next acts));
    }

-- ---- the opening

no-orders : (n : ℕ) (rules : List StockRules) → resting_over (map (listed n) rules) ≡ 0
no-orders n [] = refl
no-orders n (r ∷ rs) =
    let f : Stock → ℕ = λ (k : Stock). length k.book in
    let all : resting_over (listed n r ∷ map (listed n) rs) ≡ f (listed n r) + resting_over (map (listed n) rs) = sum_by-cons f (listed n r) (map (listed n) rs) in
    let none : f (listed n r) ≡ 0 = refl in
    let rest : resting_over (map (listed n) rs) ≡ 0 = no-orders n rs in
    omega (arith, all, none, rest)

no-matches : (n : ℕ) (rules : List StockRules) (j : ℕ) → (slice_index_or (map (listed n) rules) j no_stock).tally.matched ≡ 0
no-matches n [] j = refl
no-matches n (r ∷ rs) zero = refl
no-matches n (r ∷ rs) (suc j) = no-matches n rs j

from-opening : (laws : BookLaws) (rules : List StockRules) (cash : List ℤ) (hidden : Bool) (acts : List Act) → AllByRecursion (IsPossible (length cash) (length rules)) acts → IsRun (length cash) (length rules) (opened rules cash hidden) acts
from-opening laws rules cash hidden acts h =
    let n = length cash in
    let none : resting_over (map (listed n) rules) ≡ 0 = no-orders n rules in
    run-is laws n (length rules) (opened rules cash hidden) acts
    (record {
      many = length-map rules (listed n);
      each = All-map (IsFitStock n 0) (listed n) rules (λ k d in'. record { book = book-nil n; state = inl refl; last = omega arith; matched = omega arith });
      few = omega (arith, none);
      ended = omega (arith, none);
    }) h

-- ---- the laws

pub small-stock : (traders messages : ℕ) (s : State) (k : ℕ) → IsSmallExchange traders messages s → k < length s.stocks → IsSmallStock traders s.counts.orders (stock_at s k)
small-stock traders messages s k h in' = h.stocks k no_stock in'

pub small-book : (traders messages : ℕ) (s : State) (k : ℕ) → IsSmallExchange traders messages s → k < length s.stocks → length (stock_at s k).book ≤ most_resting
small-book traders messages s k h in' =
    let part : length (stock_at s k).book ≤ resting_over s.stocks = get_or-le-sum_by (λ (y : Stock). length y.book) s.stocks k no_stock in' in
    let few : resting_over s.stocks ≤ most_resting = h.resting in
    omega (arith, part, few)

pub small-exchange : (laws : BookLaws) (rules : List StockRules) (cash : List ℤ) (hidden : Bool) (acts : List Act) → AllByRecursion (IsPossible (length cash) (length rules)) acts → IsSmallExchange (length cash) (messages_in acts) (run (opened rules cash hidden) acts)
small-exchange laws rules cash hidden acts h =
    let n = length cash in
    let r = from-opening laws rules cash hidden acts h in
    let s = run (opened rules cash hidden) acts in
    let few : s.counts.orders ≤ 0 + messages_in acts = r.counted in
    record {
      stocks = All-weaker (IsFitStock n s.counts.orders) (IsSmallStock n s.counts.orders) (λ k b. record { orders = small-orders n s.counts.orders k.book b.book; rising = b.book.orderly.rising; state = b.state; last = b.last; matched = b.matched }) s.stocks r.kept.each;
      resting = r.kept.few;
      accepted = omega (arith, few);
      ended = r.kept.ended;
    }

pub small-feed : (laws : BookLaws) (rules : List StockRules) (cash : List ℤ) (hidden : Bool) (acts : List Act) → AllByRecursion (IsPossible (length cash) (length rules)) acts → All (IsSmallFeed (length rules) (run (opened rules cash hidden) acts).counts.orders (run (opened rules cash hidden) acts).counts.matches) (feed_over (opened rules cash hidden) acts)
small-feed laws rules cash hidden acts h = (from-opening laws rules cash hidden acts h).feed

pub matches-told : (laws : BookLaws) (rules : List StockRules) (cash : List ℤ) (hidden : Bool) (acts : List Act) → AllByRecursion (IsPossible (length cash) (length rules)) acts → (k : ℕ) → (stock_at (run (opened rules cash hidden) acts) k).tally.matched ≡ executed_in k (feed_over (opened rules cash hidden) acts)
matches-told laws rules cash hidden acts h k =
    let r = from-opening laws rules cash hidden acts h in
    let none : (stock_at (opened rules cash hidden) k).tally.matched ≡ 0 = no-matches (length cash) rules k in
    omega (arith, r.matched k, none)
