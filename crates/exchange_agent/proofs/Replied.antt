-- No reply asks for anything.
use Rattle.std.proofs.Common.{ℕ, ◌+◌, Bool, true, false, List, [], ◌∷◌, All, Option, Some, None}
use Rattle.std.specs.Prelude.{◌==◌, nat_lt, if◌then◌else◌}
use Rattle.std.proofs.lemmas.List.Elements.{All-append, All-cons, All-nil}
use Rattle.market_types.specs.declared.message.Body.{Body}
use Rattle.market_types.specs.declared.message.Body.TheVariants as body
use Rattle.market_types.specs.declared.order.Cancel.{Cancel}
use Rattle.market_types.specs.declared.order.Enter.{Enter}
use Rattle.market_types.specs.declared.order.Inbound.TheVariants as inbound
use Rattle.price_time_book.specs.declared.resting.Fill.{Fill}
use Rattle.price_time_book.specs.Matched.{matched}
use Rattle.exchange_agent.specs.declared.cancel.Found.{Found}
use Rattle.exchange_agent.specs.declared.handled.Outgoing.{Outgoing}
use Rattle.exchange_agent.specs.declared.settle.Taking.{Taking}
use Rattle.exchange_agent.specs.declared.verdict.Verdict.{Verdict}
use Rattle.exchange_agent.specs.declared.verdict.Verdict.TheVariants.{Ignored, Forgotten, Refused, Accepted}
use Rattle.exchange_agent.specs.Cancel.{cancel_of, canceled, found_from, unheard}
use Rattle.exchange_agent.specs.Enter.{entered_by, remainder, remembering, taking_of, verdict_of, way_from}
use Rattle.exchange_agent.specs.Market.{IsAskable, market}
use Rattle.exchange_agent.specs.Outcome.{Outcome}
use Rattle.exchange_agent.specs.Settle.{Way, added, all_settled, execution_of, removed, settled}
use Rattle.exchange_agent.specs.State.{State}

abbrev pub Asks : ℕ → Outgoing → Type 0
Asks stocks r = IsAskable stocks r.body

none : (n : ℕ) → All (Asks n) []
none n = All-nil (Asks n)

one : (n : ℕ) (r : Outgoing) → Asks n r → All (Asks n) (r ∷ [])
one n r h = All-cons (Asks n) r [] h (none n)

settled-asks : (n : ℕ) (t : Taking) (f : Fill) (w : Way) → All (Asks n) w.replies → All (Asks n) (settled t f w).replies
settled-asks n t f w h =
    let first : Outgoing = record { to = f.resting.agent; body = execution_of t.time f.resting.token added (w.matches + 1) f } in
    let second : Outgoing = record { to = t.agent; body = execution_of t.time t.token removed (w.matches + 1) f } in
    All-append (Asks n) w.replies (first ∷ second ∷ []) h (All-cons (Asks n) first (second ∷ []) tt (one n second tt))

all-asks : (n : ℕ) (t : Taking) (fills : List Fill) (w : Way) → All (Asks n) w.replies → All (Asks n) (all_settled t fills w).replies
all-asks n t [] w h = h
all-asks n t (f ∷ fs) w h = all-asks n t fs (settled t f w) (settled-asks n t f w h)

if-both : (b : Bool) (P : Way → Type 0) (x y : Way) → P x → P y → P (if b then x else y)
if-both true P x y p q = p
if-both false P x y p q = q

remainder-asks : (n : ℕ) (t : Taking) (e : Enter) (reference left : ℕ) (w : Way) → All (Asks n) w.replies → All (Asks n) (remainder t e reference left w).replies
remainder-asks n t e reference left w h =
    if-both (left == 0) (λ (v : Way). All (Asks n) v.replies) w _ h
    (if-both (e.tif == 0) (λ (v : Way). All (Asks n) v.replies) _ _ (All-append (Asks n) w.replies _ h (one n _ tt)) h)

entered-asks : (n : ℕ) (s : State) (time agent : ℕ) (e : Enter) (v : Verdict) → All (Asks n) (entered_by s time agent e v).replies
entered-asks n s time agent e Ignored = none n
entered-asks n s time agent e (Forgotten reason) = one n _ tt
entered-asks n s time agent e (Refused reason) = one n _ tt
entered-asks n s time agent e (Accepted k) =
    let t = taking_of time agent e k in
    let w = way_from (remembering s agent e) time agent e k in
    let m = matched w.stock.book e.side e.price e.shares in
    remainder-asks n t e (s.counts.orders + 1) m.shares (all_settled t m.fills w) (all-asks n t m.fills w (one n _ tt))

abbrev cancel-by : Bool → State → ℕ → ℕ → Cancel → Found → Outcome
cancel-by t s time agent c f = if t then canceled s time agent c f.stock f.order else unheard s

cancel-by-asks : (b : Bool) (n : ℕ) (s : State) (time agent : ℕ) (c : Cancel) (f : Found) → All (Asks n) (cancel-by b s time agent c f).replies
cancel-by-asks true n s time agent c f = one n _ tt
cancel-by-asks false n s time agent c f = none n

cancel-asks : (n : ℕ) (s : State) (time agent : ℕ) (c : Cancel) (f : Option Found) → All (Asks n) (cancel_of s time agent c f).replies
cancel-asks n s time agent c None = none n
cancel-asks n s time agent c (Some f) = cancel-by-asks (nat_lt c.shares f.order.intended) n s time agent c f

pub replies-ask-nothing : (n : ℕ) (s : State) (time agent : ℕ) (b : Body) → All (Asks n) (market s time agent b).replies
replies-ask-nothing n s time agent (body.Order (inbound.Enter e)) = entered-asks n s time agent e (verdict_of s agent e)
replies-ask-nothing n s time agent (body.Order (inbound.Cancel c)) = cancel-asks n s time agent c (found_from 0 agent c.token s.stocks)
replies-ask-nothing n s time agent (body.Ask k) = one n _ tt
replies-ask-nothing n s time agent body.Wake = none n
replies-ask-nothing n s time agent (body.Answer r) = none n
replies-ask-nothing n s time agent (body.Quote q) = none n
