-- Whom replies are sent to, and when the feed is told.
use Rattle.std.proofs.Common.{◌≡◌, ℕ, ◌+◌, ◌≤◌, Bool, true, false, List, [], ◌∷◌, length, All, Option, Some, None, arith, refl, ◌∙◌}
use Rattle.std.specs.Prelude.{◌==◌, nat_lt, if◌then◌else◌}
use Rattle.std.proofs.lemmas.Bool.Decides.{nat_tests}
use Rattle.std.proofs.lemmas.List.Elements.{All-append, All-cons, All-head, All-nil, All-tail}
use Rattle.std.proofs.lemmas.List.Quantifiers.{position-Some}
use Rattle.market_types.specs.declared.feed.Feed.{Feed}
use Rattle.market_types.specs.declared.feed.What.TheVariants as what
use Rattle.market_types.specs.declared.message.Body.{Body}
use Rattle.market_types.specs.declared.message.Body.TheVariants as body
use Rattle.market_types.specs.declared.order.Cancel.{Cancel}
use Rattle.market_types.specs.declared.order.Enter.{Enter}
use Rattle.market_types.specs.declared.order.Inbound.TheVariants as inbound
use Rattle.market_types.specs.declared.order.Side.{Side}
use Rattle.market_rules.specs.declared.changes.Change.{Change}
use Rattle.market_rules.specs.declared.changes.Change.TheVariants as change
use Rattle.price_time_book.specs.declared.resting.Fill.{Fill}
use Rattle.price_time_book.specs.declared.resting.Resting.{Resting}
use Rattle.price_time_book.specs.Matched.{matched}
use Rattle.exchange_agent.specs.declared.cancel.Found.{Found}
use Rattle.exchange_agent.specs.declared.handled.Outgoing.{Outgoing}
use Rattle.exchange_agent.specs.declared.settle.Taking.{Taking}
use Rattle.exchange_agent.specs.declared.verdict.Verdict.{Verdict}
use Rattle.exchange_agent.specs.declared.verdict.Verdict.TheVariants.{Ignored, Forgotten, Refused, Accepted}
use Rattle.exchange_agent.specs.Cancel.{cancel_of, canceled, found_from, unheard}
use Rattle.exchange_agent.specs.Changes.{Changed, changed_by}
use Rattle.exchange_agent.specs.Enter.{acceptance_of, entered_by, remainder, remembering, taking_of, verdict_of, way_from, way_of}
use Rattle.exchange_agent.specs.Market.{market}
use Rattle.exchange_agent.specs.Outcome.{IsToTrader, Outcome}
use Rattle.exchange_agent.specs.Settle.{Way, added, all_settled, execution_of, removed, settled}
use Rattle.exchange_agent.specs.Sound.{IsSound, is_trader}
use Rattle.exchange_agent.specs.State.{State, no_stock, stock_at, with_stock}
use Rattle.exchange_agent.proofs.Accepts.{traders-known}
use Rattle.exchange_agent.proofs.Verdicts.{acceptable}
use Rattle.exchange_agent.proofs.Ways.{settled-cash}
use Rattle.std.proofs.lemmas.List.{length-set}

abbrev pub IsAt : ℕ → Feed → Type 0
IsAt time f = f.time ≡ time

one-to : (n : ℕ) (r : Outgoing) → 1 ≤ r.to → r.to ≤ n → All (IsToTrader n) (r ∷ [])
one-to n r a b = All-cons (IsToTrader n) r [] (record { trader = a; exists = b }) (All-nil (IsToTrader n))

one-at : (time : ℕ) (f : Feed) → f.time ≡ time → All (IsAt time) (f ∷ [])
one-at time f e = All-cons (IsAt time) f [] e (All-nil (IsAt time))

trader-range : (n : ℕ) (o : Resting) → is_trader n o ≡ true → (1 ≤ o.agent) × (o.agent ≤ n)
trader-range n o e = (grind (arith, nat_tests), grind (arith, nat_tests))

-- the replies of a way go to traders
to-settled : (n : ℕ) (t : Taking) (f : Fill) (w : Way) → 1 ≤ t.agent → t.agent ≤ n → is_trader n f.resting ≡ true → All (IsToTrader n) w.replies → All (IsToTrader n) (settled t f w).replies
to-settled n t f w a b e h =
    let r = trader-range n f.resting e in
    let first : Outgoing = record { to = f.resting.agent; body = execution_of t.time f.resting.token added (w.matches + 1) f } in
    let second : Outgoing = record { to = t.agent; body = execution_of t.time t.token removed (w.matches + 1) f } in
    All-append (IsToTrader n) w.replies (first ∷ second ∷ []) h (All-cons (IsToTrader n) first (second ∷ []) (record { trader = r.0; exists = r.1 }) (one-to n second a b))

to-all : (n : ℕ) (t : Taking) (fills : List Fill) (w : Way) → 1 ≤ t.agent → t.agent ≤ n → All (λ (f : Fill). is_trader n f.resting ≡ true) fills → All (IsToTrader n) w.replies → All (IsToTrader n) (all_settled t fills w).replies
to-all n t [] w a b es h = h
to-all n t (f ∷ fs) w a b es h =
    to-all n t fs (settled t f w) a b (All-tail (λ (g : Fill). is_trader n g.resting ≡ true) f fs es)
    (to-settled n t f w a b (All-head (λ (g : Fill). is_trader n g.resting ≡ true) f fs es) h)

at-all : (t : Taking) (fills : List Fill) (w : Way) → All (IsAt t.time) w.feed → All (IsAt t.time) (all_settled t fills w).feed
at-all t [] w h = h
at-all t (f ∷ fs) w h = at-all t fs (settled t f w) (All-append (IsAt t.time) w.feed _ h (one-at t.time _ refl))

-- what is told of a match, or of an order that rests or is lowered, if it is told
if-told : (b : Bool) (time : ℕ) (x : Feed) → IsAt time x → All (IsAt time) (if b then x ∷ [] else [])
if-told true time x h = one-at time x h
if-told false time x h = All-nil (IsAt time)

if-both : (b : Bool) (P : Way → Type 0) (x y : Way) → P x → P y → P (if b then x else y)
if-both true P x y p q = p
if-both false P x y p q = q

to-remainder : (n : ℕ) (t : Taking) (e : Enter) (reference left : ℕ) (w : Way) → 1 ≤ t.agent → t.agent ≤ n → All (IsToTrader n) w.replies → All (IsToTrader n) (remainder t e reference left w).replies
to-remainder n t e reference left w a b h =
    if-both (left == 0) (λ (v : Way). All (IsToTrader n) v.replies) w _ h
    (if-both (e.tif == 0) (λ (v : Way). All (IsToTrader n) v.replies) _ _ (All-append (IsToTrader n) w.replies _ h (one-to n _ a b)) h)

at-remainder : (t : Taking) (e : Enter) (reference left : ℕ) (w : Way) → All (IsAt t.time) w.feed → All (IsAt t.time) (remainder t e reference left w).feed
at-remainder t e reference left w h =
    if-both (left == 0) (λ (v : Way). All (IsAt t.time) v.feed) w _ h
    (if-both (e.tif == 0) (λ (v : Way). All (IsAt t.time) v.feed) _ _ h (All-append (IsAt t.time) w.feed _ h (if-told (e.display == 89) t.time _ refl)))

-- what the book's law says: an order that gives shares is one of the traders' as the book's are
abbrev pub FillsAreKnown : ℕ → Type 0
FillsAreKnown n = (book : List Resting) (side : Side) (limit shares : ℕ) → All (λ (o : Resting). is_trader n o ≡ true) book → All (λ (f : Fill). is_trader n f.resting ≡ true) (matched book side limit shares).fills

to-entered : (s : State) (time agent : ℕ) (e : Enter) (v : Verdict) → IsSound s → FillsAreKnown (length s.cash) → 1 ≤ agent → agent ≤ length s.cash → verdict_of s agent e ≡ v → All (IsToTrader (length s.cash)) (entered_by s time agent e v).replies
to-entered s time agent e Ignored h law a b is = All-nil (IsToTrader (length s.cash))
to-entered s time agent e (Forgotten reason) h law a b is = one-to (length s.cash) _ a b
to-entered s time agent e (Refused reason) h law a b is = one-to (length s.cash) _ a b
to-entered s time agent e (Accepted k) h law a b is =
    let n = length s.cash in
    let ok = acceptable s agent e k is in
    let place = position-Some _ s.stocks k no_stock ok.number in
    let stock = h.stocks k no_stock place.0 in
    let traders = traders-known n s.counts.orders s.pairs (stock_at s k).book stock.known in
    let t = taking_of time agent e k in
    let w = way_from (remembering s agent e) time agent e k in
    let m = matched w.stock.book e.side e.price e.shares in
    let accepted : Outgoing = record { to = agent; body = body.Answer (acceptance_of time e (s.counts.orders + 1)) } in
    to-remainder n t e (s.counts.orders + 1) m.shares (all_settled t m.fills w) a b
    (to-all n t m.fills w a b (law (stock_at s k).book e.side e.price e.shares traders) (one-to n accepted a b))

at-entered : (s : State) (time agent : ℕ) (e : Enter) (v : Verdict) → All (IsAt time) (entered_by s time agent e v).feed
at-entered s time agent e Ignored = All-nil (IsAt time)
at-entered s time agent e (Forgotten reason) = All-nil (IsAt time)
at-entered s time agent e (Refused reason) = All-nil (IsAt time)
at-entered s time agent e (Accepted k) =
    let t = taking_of time agent e k in
    let w = way_from (remembering s agent e) time agent e k in
    let m = matched w.stock.book e.side e.price e.shares in
    at-remainder t e (s.counts.orders + 1) m.shares (all_settled t m.fills w) (at-all t m.fills w (All-nil (IsAt time)))

abbrev cancel-by : Bool → State → ℕ → ℕ → Cancel → Found → Outcome
cancel-by t s time agent c f = if t then canceled s time agent c f.stock f.order else unheard s

to-cancel : (s : State) (time agent : ℕ) (c : Cancel) (f : Option Found) (n : ℕ) → 1 ≤ agent → agent ≤ n → All (IsToTrader n) (cancel_of s time agent c f).replies
to-cancel s time agent c None n a b = All-nil (IsToTrader n)
to-cancel s time agent c (Some f) n a b =
    elim (nat_lt c.shares f.order.intended) as (λ t. All (IsToTrader n) (cancel-by t s time agent c f).replies) [ true ↦ one-to n _ a b | false ↦ All-nil (IsToTrader n) ]

at-cancel : (s : State) (time agent : ℕ) (c : Cancel) (f : Option Found) → All (IsAt time) (cancel_of s time agent c f).feed
at-cancel s time agent c None = All-nil (IsAt time)
at-cancel s time agent c (Some f) =
    elim (nat_lt c.shares f.order.intended) as (λ t. All (IsAt time) (cancel-by t s time agent c f).feed) [ true ↦ if-told f.order.shown time _ refl | false ↦ All-nil (IsAt time) ]

-- replies of the market go to traders
pub to-traders : (s : State) (time agent : ℕ) (b : Body) → IsSound s → FillsAreKnown (length s.cash) → 1 ≤ agent → agent ≤ length s.cash → All (IsToTrader (length s.cash)) (market s time agent b).replies
to-traders s time agent (body.Order (inbound.Enter e)) h law x y = to-entered s time agent e (verdict_of s agent e) h law x y refl
to-traders s time agent (body.Order (inbound.Cancel c)) h law x y = to-cancel s time agent c (found_from 0 agent c.token s.stocks) (length s.cash) x y
to-traders s time agent (body.Ask k) h law x y = one-to (length s.cash) _ x y
to-traders s time agent body.Wake h law x y = All-nil (IsToTrader (length s.cash))
to-traders s time agent (body.Answer r) h law x y = All-nil (IsToTrader (length s.cash))
to-traders s time agent (body.Quote q) h law x y = All-nil (IsToTrader (length s.cash))

-- and its feed has the time of handling
pub at-time : (s : State) (time agent : ℕ) (b : Body) → All (IsAt time) (market s time agent b).feed
at-time s time agent (body.Order (inbound.Enter e)) = at-entered s time agent e (verdict_of s agent e)
at-time s time agent (body.Order (inbound.Cancel c)) = at-cancel s time agent c (found_from 0 agent c.token s.stocks)
at-time s time agent (body.Ask k) = All-nil (IsAt time)
at-time s time agent body.Wake = All-nil (IsAt time)
at-time s time agent (body.Answer r) = All-nil (IsAt time)
at-time s time agent (body.Quote q) = All-nil (IsAt time)

-- What a message leaves of the sizes of a state: as many stocks and traders, at most one ignored enter and cancel more.
pub record KeepsSize (s after : State) : Type 0 where
  pub stocks : length after.stocks ≡ length s.stocks
  pub cash : length after.cash ≡ length s.cash
  pub enters : after.counts.enters ≤ s.counts.enters + 1
  pub cancels : after.counts.cancels ≤ s.counts.cancels + 1

pub keeps-all : (s : State) → KeepsSize s s
keeps-all s = record { stocks = refl; cash = refl; enters = omega arith; cancels = omega arith }

size-all : (t : Taking) (fills : List Fill) (w : Way) → length (all_settled t fills w).cash ≡ length w.cash
size-all t [] w = refl
size-all t (f ∷ fs) w = size-all t fs (settled t f w) ∙ settled-cash t f w

size-remainder : (t : Taking) (e : Enter) (reference left n : ℕ) (w : Way) → length w.cash ≡ n → length (remainder t e reference left w).cash ≡ n
size-remainder t e reference left n w h =
    if-both (left == 0) (λ (v : Way). length v.cash ≡ n) w _ h (if-both (e.tif == 0) (λ (v : Way). length v.cash ≡ n) _ _ h h)

keeps-entered : (s : State) (time agent : ℕ) (e : Enter) (v : Verdict) → KeepsSize s (entered_by s time agent e v).state
keeps-entered s time agent e Ignored = record { stocks = refl; cash = refl; enters = omega arith; cancels = omega arith }
keeps-entered s time agent e (Forgotten reason) = record { stocks = refl; cash = refl; enters = omega arith; cancels = omega arith }
keeps-entered s time agent e (Refused reason) = record { stocks = refl; cash = refl; enters = omega arith; cancels = omega arith }
keeps-entered s time agent e (Accepted k) =
    let t = taking_of time agent e k in
    let w = way_from (remembering s agent e) time agent e k in
    let m = matched w.stock.book e.side e.price e.shares in
    record {
      stocks = length-set s.stocks k (way_of t e (s.counts.orders + 1) w).stock;
      cash = size-remainder t e (s.counts.orders + 1) m.shares (length s.cash) (all_settled t m.fills w) (size-all t m.fills w);
      enters = omega arith;
      cancels = omega arith;
    }

keeps-cancel-by : (b : Bool) (s : State) (time agent : ℕ) (c : Cancel) (f : Found) → KeepsSize s (cancel-by b s time agent c f).state
keeps-cancel-by true s time agent c f = record { stocks = length-set s.stocks f.stock _; cash = refl; enters = omega arith; cancels = omega arith }
keeps-cancel-by false s time agent c f = record { stocks = refl; cash = refl; enters = omega arith; cancels = omega arith }

keeps-cancel : (s : State) (time agent : ℕ) (c : Cancel) (f : Option Found) → KeepsSize s (cancel_of s time agent c f).state
keeps-cancel s time agent c None = record { stocks = refl; cash = refl; enters = omega arith; cancels = omega arith }
keeps-cancel s time agent c (Some f) = keeps-cancel-by (nat_lt c.shares f.order.intended) s time agent c f

pub keeps-size : (s : State) (time agent : ℕ) (b : Body) → KeepsSize s (market s time agent b).state
keeps-size s time agent (body.Order (inbound.Enter e)) = keeps-entered s time agent e (verdict_of s agent e)
keeps-size s time agent (body.Order (inbound.Cancel c)) = keeps-cancel s time agent c (found_from 0 agent c.token s.stocks)
keeps-size s time agent (body.Ask k) = keeps-all s
keeps-size s time agent body.Wake = keeps-all s
keeps-size s time agent (body.Answer r) = keeps-all s
keeps-size s time agent (body.Quote q) = keeps-all s

-- a change's feed has its time
abbrev turned-by : Bool → State → ℕ → ℕ → ℕ → Changed
turned-by b s time k letter =
    if b then record { state = s; feed = [] }
    else record {
      state = with_stock s k (record (stock_at s k) { trading = letter });
      feed = record { locate = k + 1; tracking = 0; time = time; what = what.Trading (stock_at s k).symbol letter 32 (32 ∷ 32 ∷ 32 ∷ 32 ∷ []) } ∷ [];
    }

at-turned : (b : Bool) (s : State) (time k letter : ℕ) → All (IsAt time) (turned-by b s time k letter).feed
at-turned true s time k letter = All-nil (IsAt time)
at-turned false s time k letter = one-at time _ refl

pub at-change : (s : State) (time k : ℕ) (c : Change) → All (IsAt time) (changed_by s time k c).feed
at-change s time k (change.Tick bands) = All-nil (IsAt time)
at-change s time k (change.Fee fees) = All-nil (IsAt time)
at-change s time k change.Halt = at-turned ((stock_at s k).trading == 72) s time k 72
at-change s time k change.Resume = at-turned ((stock_at s k).trading == 84) s time k 84

keeps-turned : (b : Bool) (s : State) (time k letter : ℕ) → KeepsSize s (turned-by b s time k letter).state
keeps-turned true s time k letter = keeps-all s
keeps-turned false s time k letter = record { stocks = length-set s.stocks k _; cash = refl; enters = omega arith; cancels = omega arith }

pub keeps-change : (s : State) (time k : ℕ) (c : Change) → KeepsSize s (changed_by s time k c).state
keeps-change s time k (change.Tick bands) = record { stocks = length-set s.stocks k _; cash = refl; enters = omega arith; cancels = omega arith }
keeps-change s time k (change.Fee fees) = record { stocks = length-set s.stocks k _; cash = refl; enters = omega arith; cancels = omega arith }
keeps-change s time k change.Halt = keeps-turned ((stock_at s k).trading == 72) s time k 72
keeps-change s time k change.Resume = keeps-turned ((stock_at s k).trading == 84) s time k 84
