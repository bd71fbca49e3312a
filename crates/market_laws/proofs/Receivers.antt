-- Replies of an exchange whose orders are all of traders go to traders.
use Rattle.std.proofs.Common.{◌≡◌, ℕ, ◌+◌, ◌≤◌, Bool, true, false, List, [], ◌∷◌, All, Option, Some, None, arith, refl}
use Rattle.std.specs.Prelude.{◌==◌, nat_lt, if◌then◌else◌}
use Rattle.std.proofs.lemmas.Bool.Decides.{nat_tests}
use Rattle.std.proofs.lemmas.List.Elements.{All-append, All-cons, All-head, All-nil, All-tail}
use Rattle.std.proofs.lemmas.List.Quantifiers.{position-Some}
use Rattle.market_types.specs.declared.message.Body.{Body}
use Rattle.market_types.specs.declared.message.Body.TheVariants as body
use Rattle.market_types.specs.declared.order.Cancel.{Cancel}
use Rattle.market_types.specs.declared.order.Enter.{Enter}
use Rattle.market_types.specs.declared.order.Inbound.TheVariants as inbound
use Rattle.price_time_book.specs.declared.resting.Fill.{Fill}
use Rattle.price_time_book.specs.declared.resting.Resting.{Resting}
use Rattle.price_time_book.specs.Matched.{matched}
use Rattle.exchange_agent.specs.declared.cancel.Found.{Found}
use Rattle.exchange_agent.specs.declared.handled.Outgoing.{Outgoing}
use Rattle.exchange_agent.specs.declared.settle.Taking.{Taking}
use Rattle.exchange_agent.specs.declared.verdict.Verdict.{Verdict}
use Rattle.exchange_agent.specs.declared.verdict.Verdict.TheVariants.{Ignored, Forgotten, Refused, Accepted}
use Rattle.exchange_agent.specs.Cancel.{cancel_of, canceled, found_from, unheard}
use Rattle.exchange_agent.specs.Enter.{acceptance_of, entered_by, remainder, remembering, taking_of, verdict_of, way_from}
use Rattle.exchange_agent.specs.Market.{market}
use Rattle.exchange_agent.specs.Outcome.{IsToTrader, Outcome}
use Rattle.exchange_agent.specs.Settle.{Way, added, all_settled, execution_of, removed, settled}
use Rattle.exchange_agent.specs.Sound.{is_trader}
use Rattle.exchange_agent.specs.State.{State, no_stock, stock_at}
use Rattle.exchange_agent.proofs.Ends.{BookLaws}
use Rattle.exchange_agent.proofs.Steps.{IsKept}
use Rattle.exchange_agent.proofs.Verdicts.{acceptable}

to-one : (n : ℕ) (r : Outgoing) → 1 ≤ r.to → r.to ≤ n → All (IsToTrader n) (r ∷ [])
to-one n r a b = All-cons (IsToTrader n) r [] (record { trader = a; exists = b }) (All-nil (IsToTrader n))

agent-range : (n : ℕ) (o : Resting) → is_trader n o ≡ true → (1 ≤ o.agent) × (o.agent ≤ n)
agent-range n o e = (grind (arith, nat_tests), grind (arith, nat_tests))

to-settled : (n : ℕ) (t : Taking) (f : Fill) (w : Way) → 1 ≤ t.agent → t.agent ≤ n → is_trader n f.resting ≡ true → All (IsToTrader n) w.replies → All (IsToTrader n) (settled t f w).replies
to-settled n t f w a b e h =
    let r = agent-range n f.resting e in
    let first : Outgoing = record { to = f.resting.agent; body = execution_of t.time f.resting.token added (w.matches + 1) f } in
    let second : Outgoing = record { to = t.agent; body = execution_of t.time t.token removed (w.matches + 1) f } in
    All-append (IsToTrader n) w.replies (first ∷ second ∷ []) h (All-cons (IsToTrader n) first (second ∷ []) (record { trader = r.0; exists = r.1 }) (to-one n second a b))

abbrev IsOfTrader : ℕ → Fill → Type 0
IsOfTrader n f = is_trader n f.resting ≡ true

to-all : (n : ℕ) (t : Taking) (fills : List Fill) (w : Way) → 1 ≤ t.agent → t.agent ≤ n → All (IsOfTrader n) fills → All (IsToTrader n) w.replies → All (IsToTrader n) (all_settled t fills w).replies
to-all n t [] w a b each h = h
to-all n t (f ∷ fs) w a b each h =
    to-all n t fs (settled t f w) a b (All-tail (IsOfTrader n) f fs each) (to-settled n t f w a b (All-head (IsOfTrader n) f fs each) h)

either : (b : Bool) (P : Way → Type 0) (x y : Way) → P x → P y → P (if b then x else y)
either true P x y p q = p
either false P x y p q = q

abbrev ToTraders : ℕ → Way → Type 0
ToTraders n w = All (IsToTrader n) w.replies

to-remainder : (n : ℕ) (t : Taking) (e : Enter) (reference left : ℕ) (w : Way) → 1 ≤ t.agent → t.agent ≤ n → ToTraders n w → ToTraders n (remainder t e reference left w)
to-remainder n t e reference left w a b h =
    either (left == 0) (ToTraders n) w _ h
    (either (e.tif == 0) (ToTraders n) _ _ (All-append (IsToTrader n) w.replies _ h (to-one n _ a b)) h)

to-entered : BookLaws → (n stocks : ℕ) (s : State) (time agent : ℕ) (e : Enter) (v : Verdict) → IsKept n stocks s → 1 ≤ agent → agent ≤ n → verdict_of s agent e ≡ v → All (IsToTrader n) (entered_by s time agent e v).replies
to-entered laws n stocks s time agent e Ignored kept a b is = All-nil (IsToTrader n)
to-entered laws n stocks s time agent e (Forgotten reason) kept a b is = to-one n _ a b
to-entered laws n stocks s time agent e (Refused reason) kept a b is = to-one n _ a b
to-entered laws n stocks s time agent e (Accepted k) kept a b is =
    let ok = acceptable s agent e k is in
    let place = position-Some _ s.stocks k no_stock ok.number in
    let here = kept.each k no_stock place.0 in
    let t = taking_of time agent e k in
    let w = way_from (remembering s agent e) time agent e k in
    let m = matched w.stock.book e.side e.price e.shares in
    let accepted : Outgoing = record { to = agent; body = body.Answer (acceptance_of time e (s.counts.orders + 1)) } in
    to-remainder n t e (s.counts.orders + 1) m.shares (all_settled t m.fills w) a b
    (to-all n t m.fills w a b (laws.fills (is_trader n) (λ o left le q. q) (stock_at s k).book e.side e.price e.shares here.traders) (to-one n accepted a b))

abbrev cancel-by : Bool → State → ℕ → ℕ → Cancel → Found → Outcome
cancel-by t s time agent c f = if t then canceled s time agent c f.stock f.order else unheard s

to-cancel : (s : State) (time agent : ℕ) (c : Cancel) (f : Option Found) (n : ℕ) → 1 ≤ agent → agent ≤ n → All (IsToTrader n) (cancel_of s time agent c f).replies
to-cancel s time agent c None n a b = All-nil (IsToTrader n)
to-cancel s time agent c (Some f) n a b =
    elim (nat_lt c.shares f.order.intended) as (λ t. All (IsToTrader n) (cancel-by t s time agent c f).replies) [ true ↦ to-one n _ a b | false ↦ All-nil (IsToTrader n) ]

-- whatever the message of a trader
pub to-traders : BookLaws → (n stocks : ℕ) (s : State) (time agent : ℕ) (b : Body) → IsKept n stocks s → 1 ≤ agent → agent ≤ n → All (IsToTrader n) (market s time agent b).replies
to-traders laws n stocks s time agent (body.Order (inbound.Enter e)) kept x y = to-entered laws n stocks s time agent e (verdict_of s agent e) kept x y refl
to-traders laws n stocks s time agent (body.Order (inbound.Cancel c)) kept x y = to-cancel s time agent c (found_from 0 agent c.token s.stocks) n x y
to-traders laws n stocks s time agent (body.Ask k) kept x y = to-one n _ x y
to-traders laws n stocks s time agent body.Wake kept x y = All-nil (IsToTrader n)
to-traders laws n stocks s time agent (body.Answer r) kept x y = All-nil (IsToTrader n)
to-traders laws n stocks s time agent (body.Quote q) kept x y = All-nil (IsToTrader n)
