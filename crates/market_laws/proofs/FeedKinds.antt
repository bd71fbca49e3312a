-- The feed of each entry of a run is of the kinds by which reading splits it.
use Rattle.std.proofs.Common.{◌≡◌, ◌∙◌, ℕ, ◌+◌, ◌-◌, Bool, true, false, ◌&&◌, ◌||◌, cond, ltb, List, [], ◌∷◌, ◌++◌, Option, Some, None, slice_index, refl, ap, All}
use Rattle.std.specs.Prelude.{◌==◌, nat_lt, if◌then◌else◌}
use Rattle.std.specs.List.{list_all}
use Rattle.std.proofs.lemmas.Bool.{eq-eqb}
use Rattle.std.proofs.lemmas.List.Folds.{list_all-append}
use Rattle.std.proofs.lemmas.List.Elements.{All-nil, All-push}
use Rattle.market_types.specs.declared.feed.Feed.{Feed}
use Rattle.market_types.specs.declared.feed.What.TheVariants as what
use Rattle.market_types.specs.declared.message.Body.{Body}
use Rattle.market_types.specs.declared.message.Body.TheVariants as body
use Rattle.market_types.specs.declared.message.Message.{Message}
use Rattle.market_types.specs.declared.order.Cancel.{Cancel}
use Rattle.market_types.specs.declared.order.Enter.{Enter}
use Rattle.market_types.specs.declared.order.Inbound.TheVariants as inbound
use Rattle.market_types.specs.declared.order.Side.TheVariants.{Buy}
use Rattle.market_types.specs.declared.order.Symbol.{Symbol}
use Rattle.market_types.specs.Told.{EditTold, event, edit as edited_entry}
use Rattle.market_rules.specs.declared.changes.Change.{Change}
use Rattle.market_rules.specs.declared.changes.Change.TheVariants as change
use Rattle.market_rules.specs.declared.changes.Dated.{Dated}
use Rattle.market_rules.specs.declared.edit.Edit.{Edit}
use Rattle.market_rules.specs.declared.edit.Edit.TheVariants.{Tick, Fee, Halt, Resume, Latency, Agent, Silence, Inject, Series}
use Rattle.price_time_book.specs.declared.resting.Fill.{Fill}
use Rattle.price_time_book.specs.declared.resting.Resting.{Resting}
use Rattle.price_time_book.specs.Matched.{matched}
use Rattle.exchange_agent.specs.declared.cancel.Found.{Found}
use Rattle.exchange_agent.specs.declared.settle.Taking.{Taking}
use Rattle.exchange_agent.specs.declared.verdict.Verdict.{Verdict}
use Rattle.exchange_agent.specs.declared.verdict.Verdict.TheVariants.{Ignored, Forgotten, Refused, Accepted}
use Rattle.exchange_agent.specs.Cancel.{cancel_of, canceled, found_from, open_of, unheard}
use Rattle.exchange_agent.specs.Changes.{Changed, changed_by}
use Rattle.exchange_agent.specs.Enter.{entered_by, remainder, remembering, taking_of, verdict_of, way_from}
use Rattle.exchange_agent.specs.Market.{market}
use Rattle.exchange_agent.specs.Outcome.{Outcome}
use Rattle.exchange_agent.specs.Settle.{Way, all_settled, settled}
use Rattle.exchange_agent.specs.State.{State as Exchange, stock_at, with_stock}
use Rattle.branch_tree.specs.Plan.{Plan, branch_at}
use Rattle.market_floor.specs.declared.opening.Opening.{Opening}
use Rattle.market_floor.specs.Floor.{FloorState, party_at}
use Rattle.market_floor.specs.Reaction.{Reaction, decided_by, market_reaction, reaction, trader_reaction}
use Rattle.market_floor.specs.Ruled.{all_changed, due, ruled}
use Rattle.kernel_core.specs.State.{State}
use Rattle.kernel_core.specs.Step.{Happened, event_back, event_delivered, event_of, in_force}
use Rattle.kernel_core.specs.Until.{Run}
use Rattle.kernel_core.specs.Edited.{edited_one, mark_of}
use Rattle.kernel_copy.specs.Full.{opening_run, forks_of, full}
use Rattle.bundle_reader.specs.Order.{is_trading, is_of_orders}
use Rattle.bundle_reader.specs.Bundle.{HasFeed, is_own}
use Rattle.market_laws.proofs.EachRun.{AllowsAll, AllowsFrom, AreKept, allowed, kept-along}
use Rattle.market_laws.proofs.Replies.{if-both}

abbrev trades : Feed → Bool
trades m = is_trading m.what

abbrev is_on_orders : Feed → Bool
is_on_orders m = is_of_orders m.what

both-pass : (test : Feed → Bool) (xs ys : List Feed) → list_all test xs ≡ true → list_all test ys ≡ true → list_all test (xs ++ ys) ≡ true
both-pass test xs ys p q = list_all-append test xs ys ∙ ap (λ t. t && list_all test ys) p ∙ q

-- a message that is told or not
told-by : (b : Bool) (m : Feed) → is_on_orders m ≡ true → list_all is_on_orders (if b then m ∷ [] else []) ≡ true
told-by true m h = ap (λ t. t && true) h
told-by false m h = refl

-- ---- the market's feed speaks of orders

match-by : (shown : Bool) (reference shares price number : ℕ) (symbol : Symbol)
    → is_of_orders (if shown then what.Executed reference shares number else what.Trade 0 Buy shares symbol price number) ≡ true
match-by true reference shares price number symbol = refl
match-by false reference shares price number symbol = refl

orders-all : (t : Taking) (fills : List Fill) (w : Way) → list_all is_on_orders w.feed ≡ true → list_all is_on_orders (all_settled t fills w).feed ≡ true
orders-all t [] w h = h
orders-all t (f ∷ fs) w h =
    orders-all t fs (settled t f w) (both-pass is_on_orders w.feed _ h
    (ap (λ b. b && true) (match-by f.resting.shown f.resting.reference f.shares f.resting.price (w.matches + 1) w.stock.symbol)))

abbrev IsOnOrders : Way → Type 0
IsOnOrders w = list_all is_on_orders w.feed ≡ true

orders-remainder : (t : Taking) (e : Enter) (reference left : ℕ) (w : Way) → IsOnOrders w → IsOnOrders (remainder t e reference left w)
orders-remainder t e reference left w h =
    if-both (left == 0) IsOnOrders w _ h (if-both (e.tif == 0) IsOnOrders _ _ h (both-pass is_on_orders w.feed _ h (told-by (e.display == 89) _ refl)))

orders-entered : (s : Exchange) (time agent : ℕ) (e : Enter) (v : Verdict) → list_all is_on_orders (entered_by s time agent e v).feed ≡ true
orders-entered s time agent e Ignored = refl
orders-entered s time agent e (Forgotten reason) = refl
orders-entered s time agent e (Refused reason) = refl
orders-entered s time agent e (Accepted k) =
    let t = taking_of time agent e k in
    let w = way_from (remembering s agent e) time agent e k in
    let m = matched w.stock.book e.side e.price e.shares in
    orders-remainder t e (s.counts.orders + 1) m.shares (all_settled t m.fills w) (orders-all t m.fills w refl)

lowering-by : (b : Bool) (o : Resting) (left : ℕ) → is_of_orders (if b then what.Delete o.reference else what.Cancel o.reference (o.left - left)) ≡ true
lowering-by true o left = refl
lowering-by false o left = refl

abbrev cancel-by : Bool → Exchange → ℕ → ℕ → Cancel → Found → Outcome
cancel-by t s time agent c f = if t then canceled s time agent c f.stock f.order else unheard s

orders-cancel-by : (b : Bool) (s : Exchange) (time agent : ℕ) (c : Cancel) (f : Found) → list_all is_on_orders (cancel-by b s time agent c f).feed ≡ true
orders-cancel-by true s time agent c f = told-by f.order.shown _ (lowering-by (open_of f.order c.shares == 0) f.order (open_of f.order c.shares))
orders-cancel-by false s time agent c f = refl

orders-cancel : (s : Exchange) (time agent : ℕ) (c : Cancel) (f : Option Found) → list_all is_on_orders (cancel_of s time agent c f).feed ≡ true
orders-cancel s time agent c None = refl
orders-cancel s time agent c (Some f) = orders-cancel-by (nat_lt c.shares f.order.intended) s time agent c f

orders-market : (s : Exchange) (time agent : ℕ) (b : Body) → list_all is_on_orders (market s time agent b).feed ≡ true
orders-market s time agent (body.Order (inbound.Enter e)) = orders-entered s time agent e (verdict_of s agent e)
orders-market s time agent (body.Order (inbound.Cancel c)) = orders-cancel s time agent c (found_from 0 agent c.token s.stocks)
orders-market s time agent (body.Ask k) = refl
orders-market s time agent body.Wake = refl
orders-market s time agent (body.Answer r) = refl
orders-market s time agent (body.Quote q) = refl

abbrev reaction-by : Bool → Opening → FloorState → Message → Reaction
reaction-by b o f m =
    if b then market_reaction o f (market f.exchange m.time m.from m.body)
    else trader_reaction f m.to (party_at f m.to) (decided_by o f.exchange f.offsets (party_at f m.to) m)

orders-by : (b : Bool) (o : Opening) (f : FloorState) (m : Message) → list_all is_on_orders (reaction-by b o f m).feed ≡ true
orders-by true o f m = orders-market f.exchange m.time m.from m.body
orders-by false o f m = refl

orders-reaction : (o : Opening) (f : FloorState) (m : Message) → list_all is_on_orders (reaction o f m).feed ≡ true
unfolding reaction
orders-reaction o f m = orders-by (m.to == 0) o f m

-- ---- the feed of changes is trading actions

abbrev turned-by : Bool → Exchange → ℕ → ℕ → ℕ → Changed
turned-by b s time k letter =
    if b then record { state = s; feed = [] }
    else record {
      state = with_stock s k (record (stock_at s k) { trading = letter });
      feed = record { locate = k + 1; tracking = 0; time = time; what = what.Trading (stock_at s k).symbol letter 32 (32 ∷ 32 ∷ 32 ∷ 32 ∷ []) } ∷ [];
    }

trading-turned : (b : Bool) (s : Exchange) (time k letter : ℕ) → list_all trades (turned-by b s time k letter).feed ≡ true
trading-turned true s time k letter = refl
trading-turned false s time k letter = refl

trading-change : (s : Exchange) (time k : ℕ) (c : Change) → list_all trades (changed_by s time k c).feed ≡ true
trading-change s time k (change.Tick bands) = refl
trading-change s time k (change.Fee fees) = refl
trading-change s time k change.Halt = trading-turned ((stock_at s k).trading == 72) s time k 72
trading-change s time k change.Resume = trading-turned ((stock_at s k).trading == 84) s time k 84

trading-all : (ds : List Dated) (s : Exchange) → list_all trades (all_changed ds s).feed ≡ true
trading-all [] s = refl
trading-all (d ∷ ds) s =
    let next = changed_by s d.time d.stock d.change in
    both-pass trades next.feed (all_changed ds next.state).feed (trading-change s d.time d.stock d.change) (trading-all ds next.state)

trading-ruled : (o : Opening) (applied time : ℕ) (f : FloorState) → list_all trades (ruled o applied time f).feed ≡ true
unfolding ruled
trading-ruled o applied time f = trading-all (due o applied time) f.exchange

-- ---- an event's feed, and an edit's

back-feed : (o : Opening) (s : State) (m : Message) (until : ℕ) → HasFeed (event (event_back o s m until).entry)
back-feed o s m until = (trading-ruled o s.applied m.time s.floor, refl)

delivered-feed : (o : Opening) (s : State) (m : Message) → HasFeed (event (event_delivered o s m).entry)
delivered-feed o s m = (trading-ruled o s.applied m.time s.floor, orders-reaction o (in_force o s m.time).state.floor m)

event-feed : (o : Opening) (s : State) (m : Message) → HasFeed (event (event_of o s m).entry)
unfolding event_of
event-feed o s m =
    elim (ltb m.time (slice_index s.own m.to)) as (λ b. let h : Happened = cond b (event_back o s m (slice_index s.own m.to)) (event_delivered o s m) in HasFeed (event h.entry)) [
      | true ↦ back-feed o s m (slice_index s.own m.to)
      | false ↦ delivered-feed o s m
    ]

own-turned : (t : Bool) (s : Exchange) (d : EditTold) (k letter : ℕ) → ((d.letter == 104) || (d.letter == 114)) ≡ true → is_own d (turned-by t s d.time k letter).feed ≡ true
own-turned true s d k letter h = refl
own-turned false s d k letter h = ap (λ t. t && (d.time == d.time)) h ∙ eq-eqb d.time d.time refl

mark-feed : (b i : ℕ) (e : Edit) (s : State) → HasFeed (edited_entry (mark_of b i e s))
mark-feed b i (Tick stock table) s = refl
mark-feed b i (Fee stock fees) s = refl
mark-feed b i (Halt stock) s = own-turned ((stock_at s.floor.exchange stock).trading == 72) s.floor.exchange (mark_of b i (Halt stock) s) stock 72 refl
mark-feed b i (Resume stock) s = own-turned ((stock_at s.floor.exchange stock).trading == 84) s.floor.exchange (mark_of b i (Resume stock) s) stock 84 refl
mark-feed b i (Latency from to base jitter) s = refl
mark-feed b i (Agent agent name value) s = refl
mark-feed b i (Silence agent) s = refl
mark-feed b i (Inject agent after message) s = refl
mark-feed b i (Series stock offset) s = refl

-- ---- runs

abbrev HasFeeds : Run → Type 0
HasFeeds r = All HasFeed r.entries

abbrev IsAny : ℕ → ℕ → Edit → Type 0
IsAny b i e = Unit {0}

edit-feed : (b i : ℕ) (e : Edit) (r : Run) → HasFeeds r → HasFeeds (edited_one b i e r)
unfolding edited_one
edit-feed b i e r h = All-push HasFeed r.entries (edited_entry (mark_of b i e r.state)) h (mark-feed b i e r.state)

each-kept : (o : Opening) → AreKept o HasFeeds IsAny
each-kept o = record {
  event = λ r m going next h. All-push HasFeed r.entries (event (event_of o r.state m).entry) h (event-feed o r.state m);
  edit = λ b i e r any h. edit-feed b i e r h;
}

all-any : (b i : ℕ) (es : List Edit) → AllowsFrom IsAny b i es
all-any b i [] = tt
all-any b i (e ∷ es) = (tt, all-any b (i + 1) es)

-- each entry of a branch's full run has the feed that an entry can have
pub feed-full : (o : Opening) (p : Plan) (b e : ℕ) → All HasFeed (full o p b e).entries
unfolding full
feed-full o p b e =
    let bs = p.branches in
    kept-along o HasFeeds IsAny bs e (forks_of bs b) (opening_run o) (each-kept o)
    (allowed (AllowsAll IsAny bs) (forks_of bs b) (λ k. all-any k 0 (branch_at bs k).edits)) (All-nil HasFeed)
