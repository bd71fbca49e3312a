-- A run as its exchange met it, from the opening through events, edits and stops.
use Rattle.std.proofs.Common.{◌≡◌, ◌≢◌, ℕ, ◌+◌, ◌<◌, ◌≤◌, true, inl, inr, List, [], ◌∷◌, ◌++◌, length, All, refl, sym, subst, arith, slice_index}
use Rattle.std.specs.Prelude.{nat_lt}
use Rattle.std.proofs.lemmas.Bool.{cases_eq, cases_lt, ne_eqb}
use Rattle.std.proofs.lemmas.Bool.Decides.{nat_tests}
use Rattle.std.proofs.lemmas.List.{flat_map_more, get_or_past}
use Rattle.std.proofs.lemmas.List.Elements.{All-get_or, All-head, All-nil, All-tail}
use Rattle.market_types.specs.declared.feed.Feed.{Feed}
use Rattle.market_types.specs.declared.message.Message.{Message}
use Rattle.market_types.specs.Told.{EntryTold, event, edit as edited_entry}
use Rattle.market_rules.specs.declared.changes.Change.TheVariants as change
use Rattle.market_rules.specs.declared.edit.Edit.{Edit}
use Rattle.market_rules.specs.declared.edit.Edit.TheVariants.{Tick, Fee, Halt, Resume, Latency, Agent, Silence, Inject, Series}
use Rattle.market_rules.specs.EditRanges.{is_among, is_within}
use Rattle.latency_model.specs.Tables.{group_count}
use Rattle.exchange_agent.specs.Market.{market}
use Rattle.exchange_agent.specs.State.{State as Exchange}
use Rattle.exchange_agent.proofs.Ends.{BookLaws}
use Rattle.exchange_agent.proofs.Steps.{IsKept}
use Rattle.event_queue.proofs.Kept.{all-joined, all-least, all-without}
use Rattle.branch_tree.specs.declared.branch.Branch.{Branch}
use Rattle.branch_tree.specs.Plan.{no_branch, branch_at}
use Rattle.market_floor.specs.declared.opening.Opening.{Opening}
use Rattle.market_floor.specs.Edited.{edited_floor}
use Rattle.market_floor.specs.Floor.{FloorState, party_at}
use Rattle.market_floor.specs.Opening.{IsOpening}
use Rattle.market_floor.specs.Reaction.{Reaction, decided_by, market_reaction, trader_reaction}
use Rattle.market_floor.specs.Ruled.{ruled}
use Rattle.market_floor.proofs.Reactions.{to-exchange, to-trader}
use Rattle.kernel_core.specs.Edited.{IsEditOf, edited_one, mail_after, mark_of}
use Rattle.kernel_core.specs.Open.{opened}
use Rattle.kernel_core.specs.Post.{Post, nothing_waits, taken}
use Rattle.kernel_core.specs.Send.{order_at}
use Rattle.kernel_core.specs.State.{State}
use Rattle.kernel_core.specs.Step.{Happened, delivered_with, event_back, event_delivered, event_of, in_force}
use Rattle.kernel_core.specs.Until.{Run}
use Rattle.kernel_core.proofs.Posts.{all-joins}
use Rattle.kernel_core.proofs.Runs.{event-busy, event-free}
use Rattle.kernel_copy.specs.Courses.{AreEdits, CourseTold, IsCourse}
use Rattle.kernel_copy.specs.Full.{forks_of, full, opening_run}
use Rattle.kernel_copy.proofs.Opened.{opened-stocks, opened-traders}
use Rattle.feed_rebuild.specs.Feeds.{entries_feed, entry_feed}
use Rattle.market_laws.specs.History.{first_exchange}
use Rattle.market_laws.proofs.EachRun.{AllowsAll, AllowsFrom, AreKept, allowed, kept-along}
use Rattle.market_laws.proofs.Acts.{Leads, leads-more, leads-on, meets-change, meets-due, meets-message, stays}
use Rattle.market_laws.proofs.Keeping.{kept-first, kept-run}
use Rattle.market_laws.proofs.Mail.{IsMail, mail-sent, mail-woken, replies-posted, sendings-posted}
use Rattle.market_laws.proofs.Receivers.{to-traders}

-- The exchange came from one state to another by what it met, which this feed tells.
abbrev Led : Opening → Exchange → Exchange → List Feed → ℕ → Type 0
Led o s t told most = Leads (length o.traders) (length o.stocks) s t told most

-- A run of a study: its exchange came by what it met, and its mail is between the agents that there are.
pub record IsWalked (o : Opening) (r : Run) : Type 0 where
  pub led : Led o (first_exchange o) r.state.floor.exchange (entries_feed r.entries) r.state.events
  pub mail : All (IsMail (length o.traders)) r.state.post.waiting

-- the exchange's orders are traders', and so on
kept-walked : BookLaws → (o : Opening) (r : Run) → IsWalked o r → IsKept (length o.traders) (length o.stocks) r.state.floor.exchange
kept-walked laws o r h =
    subst (λ (s : Exchange). IsKept (length o.traders) (length o.stocks) s) (sym h.led.exchange)
    (kept-run laws (length o.traders) (length o.stocks) (first_exchange o) h.led.acts (kept-first o) h.led.possible)

-- ---- an event

-- What an event of a state gives.
record IsGone (o : Opening) (s : State) (h : Happened) : Type 0 where
  led : Led o s.floor.exchange h.state.floor.exchange (entry_feed (event h.entry)) 1
  mail : All (IsMail (length o.traders)) h.state.post.waiting
  events : h.state.events ≡ s.events + 1

gone-back : (o : Opening) (s : State) (m : Message) (until : ℕ) → IsOpening o → IsMail (length o.traders) m → All (IsMail (length o.traders)) s.post.waiting → IsGone o s (event_back o s m until)
gone-back o s m until opening mine all =
    let n = length o.traders in
    let k = length o.stocks in
    let e = ruled o s.applied m.time s.floor in
    let back : Message = record m { time = until } in
    record {
      led = leads-more n k s.floor.exchange e.floor.exchange (e.feed ++ []) 0 1 (omega arith)
          (leads-on n k s.floor.exchange e.floor.exchange e.floor.exchange e.feed [] 0 0 (meets-due o s.applied m.time s.floor opening) (stays n k e.floor.exchange));
      mail = all-joined (IsMail n) back _ mine (all-without (IsMail n) m.seq s.post.waiting all);
      events = refl;
    }

abbrev delivered : Opening → State → Message → Reaction → Happened
delivered o s m r = delivered_with o (in_force o s m.time).state m r (in_force o s m.time).feed

-- the exchange's own
gone-market : BookLaws → (o : Opening) (s : State) (m : Message) → IsOpening o → m.to ≡ 0 → IsMail (length o.traders) m → All (IsMail (length o.traders)) s.post.waiting
    → IsKept (length o.traders) (length o.stocks) s.floor.exchange → IsGone o s (event_delivered o s m)
gone-market laws o s m opening to mine all kept =
    let n = length o.traders in
    let k = length o.stocks in
    let e = ruled o s.applied m.time s.floor in
    let out = market e.floor.exchange m.time m.from m.body in
    let from = mine.1 to in
    let changes = meets-due o s.applied m.time s.floor opening in
    let still : IsKept n k e.floor.exchange = subst (λ (x : Exchange). IsKept n k x) (sym changes.exchange) (kept-run laws n k s.floor.exchange changes.acts kept changes.possible) in
    let r = market_reaction o e.floor out in
    subst (λ (x : Reaction). IsGone o s (delivered o s m x)) (sym (to-exchange o e.floor m to)) (record {
      led = leads-on n k s.floor.exchange e.floor.exchange out.state e.feed out.feed 0 1 changes (meets-message n k e.floor.exchange m.time m.from m.body from.0 from.1);
      mail = mail-sent o s.groups n m.to (m.time + r.delay) (taken s.post m) r.postings (replies-posted n m.to out.replies (to-traders laws n k e.floor.exchange m.time m.from m.body still from.0 from.1))
          (all-without (IsMail n) m.seq s.post.waiting all);
      events = refl;
    })

-- a trader's
gone-trader : (o : Opening) (s : State) (m : Message) → IsOpening o → m.to ≢ 0 → IsMail (length o.traders) m → All (IsMail (length o.traders)) s.post.waiting → IsGone o s (event_delivered o s m)
gone-trader o s m opening to mine all =
    let n = length o.traders in
    let k = length o.stocks in
    let e = ruled o s.applied m.time s.floor in
    let p = party_at e.floor m.to in
    let d = decided_by o e.floor.exchange e.floor.offsets p m in
    let r = trader_reaction e.floor m.to p d in
    subst (λ (x : Reaction). IsGone o s (delivered o s m x)) (sym (to-trader o e.floor m (ne_eqb m.to 0 to))) (record {
      led = leads-more n k s.floor.exchange e.floor.exchange (e.feed ++ []) 0 1 (omega arith)
          (leads-on n k s.floor.exchange e.floor.exchange e.floor.exchange e.feed [] 0 0 (meets-due o s.applied m.time s.floor opening) (stays n k e.floor.exchange));
      mail = mail-sent o s.groups n m.to (m.time + r.delay) (taken s.post m) r.postings (sendings-posted n m.to d.sends (omega (arith, to)) mine.0)
          (all-without (IsMail n) m.seq s.post.waiting all);
      events = refl;
    })

gone : BookLaws → (o : Opening) (s : State) (m : Message) → IsOpening o → IsMail (length o.traders) m → All (IsMail (length o.traders)) s.post.waiting
    → IsKept (length o.traders) (length o.stocks) s.floor.exchange → IsGone o s (event_of o s m)
gone laws o s m opening mine all kept = elim (cases_lt m.time (slice_index s.own m.to)) [
  | inl busy ↦ subst (λ (x : Happened). IsGone o s x) (sym (event-busy o s m busy)) (gone-back o s m (slice_index s.own m.to) opening mine all)
  | inr free ↦ subst (λ (x : Happened). IsGone o s x) (sym (event-free o s m free)) (elim (cases_eq m.to 0) [
    | inl to ↦ gone-market laws o s m opening to mine all kept
    | inr to ↦ gone-trader o s m opening to mine all
  ])
]

-- ---- one entry more

-- the feed of one entry more
feed-more : (xs : List EntryTold) (x : EntryTold) → entries_feed (xs ++ x ∷ []) ≡ entries_feed xs ++ entry_feed x
feed-more xs x = sym (flat_map_more entry_feed [] xs x)

-- a run that goes on by an entry
led-more : (o : Opening) (s t : Exchange) (xs : List EntryTold) (x : EntryTold) (a b : ℕ) → Led o (first_exchange o) s (entries_feed xs) a → Led o s t (entry_feed x) b
    → Led o (first_exchange o) t (entries_feed (xs ++ x ∷ [])) (a + b)
led-more o s t xs x a b p q =
    subst (λ (f : List Feed). Led o (first_exchange o) t f (a + b)) (sym (feed-more xs x))
    (leads-on (length o.traders) (length o.stocks) (first_exchange o) s t (entries_feed xs) (entry_feed x) a b p q)

walked-event : (o : Opening) (r : Run) (h : Happened) → IsWalked o r → IsGone o r.state h → IsWalked o (record { state = h.state; entries = r.entries ++ event h.entry ∷ [] })
walked-event o r h w g = record {
  led = subst (λ (n : ℕ). Led o (first_exchange o) h.state.floor.exchange (entries_feed (r.entries ++ event h.entry ∷ [])) n) (sym g.events)
      (led-more o r.state.floor.exchange h.state.floor.exchange r.entries (event h.entry) r.state.events 1 w.led g.led);
  mail = g.mail;
}

-- ---- edits

stock-from : (stock stocks : ℕ) → nat_lt stock stocks ≡ true → stock < stocks
stock-from stock stocks h = grind (arith, nat_tests)

trader-from : (agent traders : ℕ) → is_within 1 traders agent ≡ true → (1 ≤ agent) × (agent ≤ traders)
trader-from agent traders h = (grind (arith, nat_tests), grind (arith, nat_tests))

-- an edit of an opening is among its stocks and traders
among-opening : (o : Opening) (e : Edit) → IsEditOf (opened o) e → is_among (length o.stocks) (length o.traders) (group_count o.groups) e ≡ true
among-opening o e h =
    subst (λ (n : ℕ). is_among (length o.stocks) n (group_count o.groups) e ≡ true) (opened-traders o)
    (subst (λ (n : ℕ). is_among n (length (opened o).floor.parties) (group_count o.groups) e ≡ true) (opened-stocks o) h.among)

edit-led : (o : Opening) (time groups : ℕ) (e : Edit) (f : FloorState) → is_among (length o.stocks) (length o.traders) groups e ≡ true
    → Led o f.exchange (edited_floor time e f).floor.exchange (edited_floor time e f).feed 0
edit-led o time groups (Tick stock table) f h = meets-change (length o.traders) (length o.stocks) f.exchange time stock (change.Tick table) (stock-from stock (length o.stocks) h)
edit-led o time groups (Fee stock fees) f h = meets-change (length o.traders) (length o.stocks) f.exchange time stock (change.Fee fees) (stock-from stock (length o.stocks) h)
edit-led o time groups (Halt stock) f h = meets-change (length o.traders) (length o.stocks) f.exchange time stock change.Halt (stock-from stock (length o.stocks) h)
edit-led o time groups (Resume stock) f h = meets-change (length o.traders) (length o.stocks) f.exchange time stock change.Resume (stock-from stock (length o.stocks) h)
edit-led o time groups (Latency from to base jitter) f h = stays (length o.traders) (length o.stocks) f.exchange
edit-led o time groups (Agent agent name value) f h = stays (length o.traders) (length o.stocks) f.exchange
edit-led o time groups (Silence agent) f h = stays (length o.traders) (length o.stocks) f.exchange
edit-led o time groups (Inject agent after message) f h = stays (length o.traders) (length o.stocks) f.exchange
edit-led o time groups (Series stock offset) f h = stays (length o.traders) (length o.stocks) f.exchange

edit-mail : (stocks traders groups time : ℕ) (e : Edit) (p : Post) → is_among stocks traders groups e ≡ true → All (IsMail traders) p.waiting → All (IsMail traders) (mail_after time e p).waiting
edit-mail stocks traders groups time (Tick stock table) p h all = all
edit-mail stocks traders groups time (Fee stock fees) p h all = all
edit-mail stocks traders groups time (Halt stock) p h all = all
edit-mail stocks traders groups time (Resume stock) p h all = all
edit-mail stocks traders groups time (Latency from to base jitter) p h all = all
edit-mail stocks traders groups time (Agent agent name value) p h all = all
edit-mail stocks traders groups time (Silence agent) p h all = all
edit-mail stocks traders groups time (Inject agent after message) p h all =
    let r = trader-from agent traders h in
    all-joins (IsMail traders) p (order_at agent (time + after) message) (omega arith, λ _. r) all
edit-mail stocks traders groups time (Series stock offset) p h all = all

walked-edit : (o : Opening) (b i : ℕ) (e : Edit) (r : Run) → IsEditOf (opened o) e → IsWalked o r → IsWalked o (edited_one b i e r)
unfolding edited_one
walked-edit o b i e r fit h =
    let s = r.state in
    let among = among-opening o e fit in
    let x = edited_entry (mark_of b i e s) in
    let more = led-more o s.floor.exchange (edited_floor s.time e s.floor).floor.exchange r.entries x s.events 0 h.led (edit-led o s.time (group_count o.groups) e s.floor among) in
    record {
      led = leads-more (length o.traders) (length o.stocks) (first_exchange o) (edited_floor s.time e s.floor).floor.exchange (entries_feed (r.entries ++ x ∷ [])) (s.events + 0) s.events (omega arith) more;
      mail = edit-mail (length o.stocks) (length o.traders) (group_count o.groups) s.time e s.post among h.mail;
    }

abbrev IsFit : Opening → Edit → Type 0
IsFit o e = IsEditOf (opened o) e

abbrev HasEdits : Opening → Branch → Type 0
HasEdits o b = AreEdits o b.edits

branch-edits : (o : Opening) (bs : List Branch) (b : ℕ) → All (HasEdits o) bs → All (IsFit o) (branch_at bs b).edits
branch-edits o bs b h = elim (cases_lt b (length bs)) [
  | inl l ↦ (All-get_or (HasEdits o) bs b no_branch l h).fit
  | inr past ↦ subst (λ (x : Branch). All (IsFit o) x.edits) (sym (get_or_past bs b no_branch past)) (All-nil (IsFit o))
]

-- ---- runs

abbrev Fits : Opening → ℕ → ℕ → Edit → Type 0
Fits o b i e = IsFit o e

each-kept : BookLaws → (o : Opening) → IsOpening o → AreKept o (IsWalked o) (Fits o)
each-kept laws o opening = record {
  event = λ r m going next h.
      let mine = all-least (IsMail (length o.traders)) r.state.post.waiting m next h.mail in
      walked-event o r (event_of o r.state m) h (gone laws o r.state m opening mine h.mail (kept-walked laws o r h));
  edit = λ b i e r fit h. walked-edit o b i e r fit h;
}

all-fit : (o : Opening) (b i : ℕ) (es : List Edit) → All (IsFit o) es → AllowsFrom (Fits o) b i es
all-fit o b i [] h = tt
all-fit o b i (e ∷ es) h = (All-head (IsFit o) e es h, all-fit o b (i + 1) es (All-tail (IsFit o) e es h))

walked-opening : (o : Opening) → IsWalked o (opening_run o)
walked-opening o = record {
  led = stays (length o.traders) (length o.stocks) (first_exchange o);
  mail = mail-woken o (length o.traders) 1 nothing_waits o.traders (omega arith) (omega arith) (All-nil (IsMail (length o.traders)));
}

-- each state of each branch of a course
pub walked-full : BookLaws → (c : CourseTold) (b e : ℕ) → IsCourse c → IsWalked c.opening (full c.opening c.plan b e)
unfolding full
walked-full laws c b e h =
    let o = c.opening in
    let bs = c.plan.branches in
    kept-along o (IsWalked o) (Fits o) bs e (forks_of bs b) (opening_run o) (each-kept laws o h.opening)
    (allowed (AllowsAll (Fits o) bs) (forks_of bs b) (λ k. all-fit o k 0 (branch_at bs k).edits (branch-edits o bs k h.edits))) (walked-opening o)
