-- What an exchange meets on the way from one state to another.
use Rattle.std.proofs.Common.{◌≡◌, ℕ, ◌+◌, ◌≤◌, ◌<◌, List, [], ◌∷◌, ◌++◌, length, refl, sym, ap, ◌∙◌, arith, append_assoc}
use Rattle.std.specs.List.{AllByRecursion}
use Rattle.std.proofs.lemmas.List.{append-nil}
use Rattle.std.proofs.lemmas.List.Elements.{All-drop, All-take, All-weaker, recursion_from_All}
use Rattle.market_types.specs.declared.feed.Feed.{Feed}
use Rattle.market_types.specs.declared.message.Body.{Body}
use Rattle.market_rules.specs.declared.changes.Change.{Change}
use Rattle.market_rules.specs.declared.changes.Dated.{Dated}
use Rattle.exchange_agent.specs.Changes.{changed_by}
use Rattle.exchange_agent.specs.Market.{market}
use Rattle.exchange_agent.specs.Runs.{Act, IsPossible, message, change, run, state_after}
use Rattle.exchange_agent.specs.State.{State as Exchange}
use Rattle.market_floor.specs.declared.opening.Opening.{Opening}
use Rattle.market_floor.specs.Floor.{FloorState}
use Rattle.market_floor.specs.Opening.{IsDated, IsOpening}
use Rattle.market_floor.specs.Ruled.{all_changed, due, ruled}
use Rattle.market_laws.specs.Feeds.{feed_by, feed_over}
use Rattle.market_laws.specs.Messages.{messages_in}

run-append : (s : Exchange) (xs ys : List Act) → run s (xs ++ ys) ≡ run (run s xs) ys
run-append s [] ys = refl
run-append s (x ∷ xs) ys = run-append (state_after s x) xs ys

feed-append : (s : Exchange) (xs ys : List Act) → feed_over s (xs ++ ys) ≡ feed_over s xs ++ feed_over (run s xs) ys
feed-append s [] ys = refl
feed-append s (x ∷ xs) ys =
    let next = state_after s x in
    ap (λ (f : List Feed). feed_by s x ++ f) (feed-append next xs ys) ∙ sym (append_assoc (feed_by s x) (feed_over next xs) (feed_over (run next xs) ys))

messages-append : (xs ys : List Act) → messages_in (xs ++ ys) ≡ messages_in xs + messages_in ys
messages-append [] ys = omega arith
messages-append (message time from b ∷ xs) ys = omega (arith, messages-append xs ys)
messages-append (change time stock c ∷ xs) ys = messages-append xs ys

both-possible : (traders stocks : ℕ) (xs ys : List Act) → AllByRecursion (IsPossible traders stocks) xs → AllByRecursion (IsPossible traders stocks) ys → AllByRecursion (IsPossible traders stocks) (xs ++ ys)
both-possible traders stocks [] ys h k = k
both-possible traders stocks (x ∷ xs) ys h k = (h.0, both-possible traders stocks xs ys h.1 k)

-- An exchange of so many traders and stocks comes from a state to another by what it meets, and tells this feed; at most so
-- many of these are messages.
pub record Leads (traders stocks : ℕ) (s t : Exchange) (told : List Feed) (most : ℕ) : Type 0 where
  pub acts : List Act
  pub possible : AllByRecursion (IsPossible traders stocks) acts
  pub exchange : t ≡ run s acts
  pub feed : told ≡ feed_over s acts
  pub messages : messages_in acts ≤ most

pub stays : (traders stocks : ℕ) (s : Exchange) → Leads traders stocks s s [] 0
stays traders stocks s = record { acts = []; possible = tt; exchange = refl; feed = refl; messages = omega arith }

pub leads-more : (traders stocks : ℕ) (s t : Exchange) (told : List Feed) (most more : ℕ) → most ≤ more → Leads traders stocks s t told most → Leads traders stocks s t told more
leads-more traders stocks s t told most more le h = record { acts = h.acts; possible = h.possible; exchange = h.exchange; feed = h.feed; messages = omega (arith, h.messages, le) }

-- first one way and then another
pub leads-on : (traders stocks : ℕ) (s t u : Exchange) (xs ys : List Feed) (a b : ℕ) → Leads traders stocks s t xs a → Leads traders stocks t u ys b → Leads traders stocks s u (xs ++ ys) (a + b)
leads-on traders stocks s t u xs ys a b p q = record {
  acts = p.acts ++ q.acts;
  possible = both-possible traders stocks p.acts q.acts p.possible q.possible;
  exchange = q.exchange ∙ ap (λ (z : Exchange). run z q.acts) p.exchange ∙ sym (run-append s p.acts q.acts);
  feed = ap (λ (f : List Feed). f ++ ys) p.feed
      ∙ ap (λ (f : List Feed). feed_over s p.acts ++ f) (q.feed ∙ ap (λ (z : Exchange). feed_over z q.acts) p.exchange)
      ∙ sym (feed-append s p.acts q.acts);
  messages = omega (arith, messages-append p.acts q.acts, p.messages, q.messages);
}

-- a message of a trader that there is
pub meets-message : (traders stocks : ℕ) (s : Exchange) (time from : ℕ) (b : Body) → 1 ≤ from → from ≤ traders → Leads traders stocks s (market s time from b).state (market s time from b).feed 1
meets-message traders stocks s time from b low high = record {
  acts = message time from b ∷ [];
  possible = ((low, high), tt);
  exchange = refl;
  feed = sym (append-nil (market s time from b).feed);
  messages = omega arith;
}

-- a change of a stock that there is
pub meets-change : (traders stocks : ℕ) (s : Exchange) (time stock : ℕ) (c : Change) → stock < stocks → Leads traders stocks s (changed_by s time stock c).state (changed_by s time stock c).feed 0
meets-change traders stocks s time stock c within = record {
  acts = change time stock c ∷ [];
  possible = (within, tt);
  exchange = refl;
  feed = sym (append-nil (changed_by s time stock c).feed);
  messages = omega arith;
}

abbrev IsOfStock : ℕ → Dated → Type 0
IsOfStock stocks d = d.stock < stocks

meets-changes : (traders stocks : ℕ) (ds : List Dated) (s : Exchange) → AllByRecursion (IsOfStock stocks) ds → Leads traders stocks s (all_changed ds s).state (all_changed ds s).feed 0
meets-changes traders stocks [] s h = stays traders stocks s
meets-changes traders stocks (d ∷ ds) s h =
    let next = changed_by s d.time d.stock d.change in
    leads-on traders stocks s next.state (all_changed ds next.state).state next.feed (all_changed ds next.state).feed 0 0
    (meets-change traders stocks s d.time d.stock d.change h.0) (meets-changes traders stocks ds next.state h.1)

-- the dated changes that are due at a time
pub meets-due : (o : Opening) (applied time : ℕ) (f : FloorState) → IsOpening o → Leads (length o.traders) (length o.stocks) f.exchange (ruled o applied time f).floor.exchange (ruled o applied time f).feed 0
unfolding ruled
meets-due o applied time f h =
    let P : Dated → Type 0 = IsOfStock (length o.stocks) in
    let each = All-weaker (λ (d : Dated). IsDated o d) P (λ d q. q.stock) o.dated h.dated.each in
    meets-changes (length o.traders) (length o.stocks) (due o applied time) f.exchange
    (recursion_from_All P (due o applied time) (All-drop P applied _ (All-take P _ o.dated each)))
