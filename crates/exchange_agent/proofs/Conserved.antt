-- Whole runs from an opening.
use Rattle.std.proofs.Common.{◌≡◌, ℕ, zero, suc, ◌+◌, ◌<◌, ℤ, pos, ◌+ℤ◌, List, [], ◌∷◌, map, length, replicate, arith, refl, subst, sym, ◌∙◌, sum_by, Bool, true}
use Rattle.std.specs.Prelude.{if◌then◌else◌, slice_index_or}
use Rattle.std.specs.List.{AllByRecursion}
use Rattle.std.proofs.lemmas.Int.{ints}
use Rattle.std.proofs.lemmas.List.{length-map, length-replicate}
use Rattle.std.proofs.lemmas.List.Elements.{All-map, All-nil, All-weaker}
use Rattle.std.proofs.lemmas.List.Sums.{sum_by-append, sum_by-cons}
use Rattle.market_types.specs.declared.message.Body.{Body}
use Rattle.price_time_book.specs.declared.resting.Resting.{Resting}
use Rattle.exchange_agent.specs.declared.handled.Outgoing.{Outgoing}
use Rattle.exchange_agent.specs.declared.told.StockRules.{StockRules}
use Rattle.exchange_agent.specs.Open.{listed, opened}
use Rattle.exchange_agent.specs.Runs.{Act, message, change, IsConserved, IsPossible, IsUncrossed, accepted_shares, canceled_shares, executed_shares, fees_taken, is_for, open_shares, removed_over, removed_shares, replies_over, replies_to, run, state_after, total, total_of}
use Rattle.exchange_agent.specs.Sound.{is_trader}
use Rattle.exchange_agent.specs.State.{State, Stock, no_stock, stock_at}
use Rattle.exchange_agent.proofs.Crossings.{apart-nil, uncrossed-apart}
use Rattle.exchange_agent.proofs.Ends.{BookLaws}
use Rattle.exchange_agent.proofs.Steps.{IsKept, IsKeptStock, IsStep, change-step, message-step}

act-step : (laws : BookLaws) (n stocks : ℕ) (s : State) (a : Act) → IsKept n stocks s → IsPossible n stocks a → IsStep n stocks s (state_after s a) (replies_to s a) (λ j. if is_for s j a then total_of removed_shares (replies_to s a) else 0)
act-step laws n stocks s (message time from b) kept h = message-step laws n stocks s time from b kept h.0 h.1
act-step laws n stocks s (change time k c) kept h = change-step n stocks s time k c kept (subst (λ (m : ℕ). k < m) (sym kept.many) h)

-- What holds of a run from any state that is kept.
pub record IsRun (n stocks : ℕ) (s : State) (acts : List Act) : Type 0 where
  pub kept : IsKept n stocks (run s acts)
  pub money : total (run s acts).cash +ℤ fees_taken (run s acts).stocks ≡ total s.cash +ℤ fees_taken s.stocks
  pub shares : open_shares (run s acts).stocks + total_of executed_shares (replies_over s acts) + total_of canceled_shares (replies_over s acts) ≡ open_shares s.stocks + total_of accepted_shares (replies_over s acts)
  pub matched : (j : ℕ) → (stock_at (run s acts) j).tally.matched ≡ (stock_at s j).tally.matched + removed_over s j acts

run-is : (laws : BookLaws) (n stocks : ℕ) (s : State) (acts : List Act) → IsKept n stocks s → AllByRecursion (IsPossible n stocks) acts → IsRun n stocks s acts
run-is laws n stocks s [] kept h = record { kept = kept; money = refl; shares = omega arith; matched = λ j. omega arith }
run-is laws n stocks s (a ∷ acts) kept h =
    let one = act-step laws n stocks s a kept h.0 in
    let next = state_after s a in
    let rest = run-is laws n stocks next acts one.kept h.1 in
    let told : (of : Body → ℕ) → total_of of (replies_over s (a ∷ acts)) ≡ total_of of (replies_to s a) + total_of of (replies_over next acts) = λ of. sum_by-append (λ (r : Outgoing). of r.body) (replies_to s a) (replies_over next acts) in
    let executed : total_of executed_shares (replies_over s (a ∷ acts)) ≡ total_of executed_shares (replies_to s a) + total_of executed_shares (replies_over next acts) = told executed_shares in
    let canceled : total_of canceled_shares (replies_over s (a ∷ acts)) ≡ total_of canceled_shares (replies_to s a) + total_of canceled_shares (replies_over next acts) = told canceled_shares in
    let accepted : total_of accepted_shares (replies_over s (a ∷ acts)) ≡ total_of accepted_shares (replies_to s a) + total_of accepted_shares (replies_over next acts) = told accepted_shares in
    record {
      kept = rest.kept;
      money = rest.money ∙ one.money;
      shares = omega (arith, executed, canceled, accepted, one.shares, rest.shares);
      matched = λ j. omega (arith, one.matched j, rest.matched j);
    }

flat-zeros : (n : ℕ) → total (replicate n (pos 0)) ≡ pos 0
flat-zeros zero = refl
flat-zeros (suc n) = let rest : total (replicate n (pos 0)) ≡ pos 0 = flat-zeros n in omega (arith, ints, rest)

kept-listed : (n : ℕ) (r : StockRules) → IsKeptStock n 0 (listed n r)
kept-listed n r = record {
  orderly = record { rising = tt; live = tt; within = tt; few = omega arith };
  traders = All-nil (λ (o : Resting). is_trader n o ≡ true);
  references = All-nil (λ (o : Resting). o.reference < 0 + 1);
  accounts = length-replicate n (pos 0);
  flat = flat-zeros n;
  apart = apart-nil;
}

no-fees : (n : ℕ) (rules : List StockRules) → fees_taken (map (listed n) rules) ≡ pos 0
no-fees n [] = refl
no-fees n (r ∷ rs) = let rest : fees_taken (map (listed n) rs) ≡ pos 0 = no-fees n rs in omega (arith, ints, rest)

no-orders : (n : ℕ) (rules : List StockRules) → open_shares (map (listed n) rules) ≡ 0
no-orders n [] = refl
no-orders n (r ∷ rs) =
    let f : Stock → ℕ = λ (k : Stock). sum_by (λ (o : Resting). o.left) k.book in
    let all : sum_by f (listed n r ∷ map (listed n) rs) ≡ f (listed n r) + sum_by f (map (listed n) rs) = sum_by-cons f (listed n r) (map (listed n) rs) in
    let none : f (listed n r) ≡ 0 = refl in
    let rest : sum_by f (map (listed n) rs) ≡ 0 = no-orders n rs in
    omega (arith, all, none, rest)

no-matches : (n : ℕ) (rules : List StockRules) (j : ℕ) → (slice_index_or (map (listed n) rules) j no_stock).tally.matched ≡ 0
no-matches n [] j = refl
no-matches n (r ∷ rs) zero = refl
no-matches n (r ∷ rs) (suc j) = no-matches n rs j

pub conserved : (laws : BookLaws) (rules : List StockRules) (cash : List ℤ) (hidden : Bool) (acts : List Act) → AllByRecursion (IsPossible (length cash) (length rules)) acts → IsConserved rules cash hidden acts
conserved laws rules cash hidden acts h =
    let n = length cash in
    let s = opened rules cash hidden in
    let kept : IsKept n (length rules) s = record { cash = refl; many = length-map rules (listed n); each = All-map (IsKeptStock n 0) (listed n) rules (λ k d in'. kept-listed n (slice_index_or rules k d)) } in
    let r = run-is laws n (length rules) s acts kept h in
    let fees : fees_taken s.stocks ≡ pos 0 = no-fees n rules in
    let orders : open_shares s.stocks ≡ 0 = no-orders n rules in
    record {
      money = let all : total (run s acts).cash +ℤ fees_taken (run s acts).stocks ≡ total cash +ℤ fees_taken s.stocks = r.money in omega (arith, ints, all, fees);
      positions = All-weaker (IsKeptStock n (run s acts).counts.orders) (λ (k : Stock). total k.tally.positions ≡ pos 0) (λ x k. k.flat) (run s acts).stocks r.kept.each;
      matched = λ k. let none : (stock_at s k).tally.matched ≡ 0 = no-matches n rules k in omega (arith, r.matched k, none);
      shares = omega (arith, r.shares, orders);
      uncrossed = All-weaker (IsKeptStock n (run s acts).counts.orders) (λ (k : Stock). IsUncrossed k.book) (λ x k. uncrossed-apart x.book k.apart) (run s acts).stocks r.kept.each;
    }
