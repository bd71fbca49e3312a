-- What the exchange replies has its texts in their ranges, where those of what it handles and of its stocks have.
use Rattle.std.proofs.Common.{ℕ, zero, suc, ◌+◌, ◌-◌, ◌<◌, Bool, true, false, List, [], ◌∷◌, All, Option, Some, None, find, arith}
use Rattle.std.specs.Prelude.{◌==◌, nat_lt, if◌then◌else◌, slice_index_or, IfSome}
use Rattle.std.proofs.lemmas.List.Elements.{All-append, All-cons, All-from_recursion, All-head, All-nil, All-push, All-set, All-tail, recursion_from_All}
use Rattle.market_types.specs.declared.message.Body.{Body}
use Rattle.market_types.specs.declared.message.Body.TheVariants as body
use Rattle.market_types.specs.declared.order.Cancel.{Cancel}
use Rattle.market_types.specs.declared.order.Enter.{Enter}
use Rattle.market_types.specs.declared.order.Inbound.TheVariants as inbound
use Rattle.market_types.specs.declared.order.Token.{Token}
use Rattle.market_rules.specs.declared.changes.Change.{Change}
use Rattle.market_rules.specs.declared.changes.Change.TheVariants as change
use Rattle.price_time_book.specs.declared.resting.Fill.{Fill}
use Rattle.price_time_book.specs.declared.resting.Resting.{Resting}
use Rattle.price_time_book.specs.Matched.{Matching, matched}
use Rattle.price_time_book.specs.Orders.{changed, order_of, reduced}
use Rattle.price_time_book.proofs.Stays.{all-fills, each-changed}
use Rattle.exchange_agent.specs.declared.cancel.Found.{Found}
use Rattle.exchange_agent.specs.declared.handled.Outgoing.{Outgoing}
use Rattle.exchange_agent.specs.declared.settle.Taking.{Taking}
use Rattle.exchange_agent.specs.declared.verdict.Verdict.{Verdict}
use Rattle.exchange_agent.specs.declared.verdict.Reason.TheVariants as why
use Rattle.exchange_agent.specs.declared.verdict.Verdict.TheVariants.{Ignored, Forgotten, Refused, Accepted}
use Rattle.exchange_agent.specs.Cancel.{cancel_of, canceled, found_from, found_here, open_of, unheard}
use Rattle.exchange_agent.specs.Changes.{Changed, changed_by, turned}
use Rattle.exchange_agent.specs.Enter.{entered_by, is_full, is_halted, is_memory_full, is_remembered, price_is_refused, reason_letter, remainder, remembering, resting_of, shares_are_refused, taking_of, terms_are_refused, verdict_at, verdict_of, verdict_there, way_from, way_of}
use Rattle.exchange_agent.specs.Market.{market, quote_of}
use Rattle.exchange_agent.specs.Outcome.{Outcome}
use Rattle.exchange_agent.specs.Settle.{Way, added, all_settled, execution_of, removed, settled}
use Rattle.exchange_agent.specs.State.{State, Stock, no_stock, stock_at, stock_number_of, with_stock}
use Rattle.market_laws.specs.Texts.{HasBodyTexts, HasStockTexts, HasToken, IsToken}
use Rattle.market_laws.proofs.Spellings.{AreEnterTexts, IsLetter, accepted-texts, cancel-token, canceled-texts, enter-parts, executed-texts, letter-a, letter-h, letter-i, letter-o, letter-r, letter-s, letter-u, letter-x, rejected-texts}

pub all-at : {A : Type 0} (P : A → Type 0) (d : A) → P d → (xs : List A) (k : ℕ) → All P xs → P (slice_index_or xs k d)
all-at P d p [] k h = p
all-at P d p (x ∷ xs) zero h = All-head P x xs h
all-at P d p (x ∷ xs) (suc k) h = all-at P d p xs k (All-tail P x xs h)

pub if-both : {A : Type 0} (b : Bool) (P : A → Type 0) (x y : A) → P x → P y → P (if b then x else y)
if-both true P x y p q = p
if-both false P x y p q = q

-- ---- stocks

tokens-changed : (o : Resting) (w : List Resting) → HasToken o → All HasToken w → All HasToken (changed o w)
tokens-changed o w p h = All-from_recursion HasToken (changed o w) (each-changed HasToken o w p (recursion_from_All HasToken w h))

pub no-texts : HasStockTexts no_stock
no-texts = record { tokens = All-nil HasToken; state = omega arith }

texts-at : (s : State) (k : ℕ) → All HasStockTexts s.stocks → HasStockTexts (stock_at s k)
texts-at s k h = all-at HasStockTexts no_stock no-texts s.stocks k h

with-texts : (s : State) (k : ℕ) (x : Stock) → All HasToken x.book → x.trading < 256 → All HasStockTexts s.stocks → All HasStockTexts (with_stock s k x).stocks
with-texts s k x tokens state h = All-set HasStockTexts s.stocks k x (record { tokens = tokens; state = state }) h

abbrev IsFilled : Fill → Type 0
IsFilled f = HasToken f.resting

fills-tokens : (m : Matching) (e : Enter) → All HasToken m.book → All IsFilled m.fills → All IsFilled (matched m.book e.side e.price e.shares).fills
fills-tokens m e h k =
    let start : Matching = record { fills = []; book = m.book; shares = e.shares } in
    all-fills HasToken IsFilled (λ o left le p. p) e.side e.price start (λ o shares c s le p. p) h (All-nil IsFilled)

-- ---- an accepted order

abbrev pub HasReplyTexts : Outgoing → Type 0
HasReplyTexts r = HasBodyTexts r.body

record IsSpelledWay (w : Way) : Type 0 where
  stock : HasStockTexts w.stock
  replies : All HasReplyTexts w.replies

settled-spelled : (t : Taking) (f : Fill) (w : Way) → IsToken t.token → IsFilled f → IsSpelledWay w → IsSpelledWay (settled t f w)
settled-spelled t f w own other h =
    let first : Outgoing = record { to = f.resting.agent; body = execution_of t.time f.resting.token added (w.matches + 1) f } in
    let second : Outgoing = record { to = t.agent; body = execution_of t.time t.token removed (w.matches + 1) f } in
    let one : HasReplyTexts first = executed-texts t.time f.resting.token f.shares f.resting.price 65 (w.matches + 1) other letter-a in
    let two : HasReplyTexts second = executed-texts t.time t.token f.shares f.resting.price 82 (w.matches + 1) own letter-r in
    record {
      stock = record { tokens = tokens-changed _ w.stock.book other h.stock.tokens; state = h.stock.state };
      replies = All-append HasReplyTexts w.replies (first ∷ second ∷ []) h.replies
          (All-cons HasReplyTexts first (second ∷ []) one (All-cons HasReplyTexts second [] two (All-nil HasReplyTexts)));
    }

all-spelled : (t : Taking) (fills : List Fill) (w : Way) → IsToken t.token → All IsFilled fills → IsSpelledWay w → IsSpelledWay (all_settled t fills w)
all-spelled t [] w own others h = h
all-spelled t (f ∷ fs) w own others h =
    all-spelled t fs (settled t f w) own (All-tail IsFilled f fs others) (settled-spelled t f w own (All-head IsFilled f fs others) h)

remainder-spelled : (t : Taking) (e : Enter) (reference left : ℕ) (w : Way) → IsToken e.token → IsSpelledWay w → IsSpelledWay (remainder t e reference left w)
remainder-spelled t e reference left w own h =
    let reply = canceled-texts t.time e.token left 73 own letter-i in
    if-both (left == 0) IsSpelledWay w _ h
    (if-both (e.tif == 0) IsSpelledWay _ _
    (record { stock = h.stock; replies = All-push HasReplyTexts w.replies _ h.replies reply })
    (record {
      stock = record { tokens = All-push HasToken w.stock.book (resting_of reference t.agent e left) h.stock.tokens own; state = h.stock.state };
      replies = h.replies;
    }))

-- ---- outcomes

pub record IsSpelledOutcome (out : Outcome) : Type 0 where
  pub stocks : All HasStockTexts out.state.stocks
  pub replies : All HasReplyTexts out.replies

one-reply : (r : Outgoing) → HasReplyTexts r → All HasReplyTexts (r ∷ [])
one-reply r h = All-cons HasReplyTexts r [] h (All-nil HasReplyTexts)

-- the reason of a refusal is a letter
abbrev HasReason : Verdict → Type 0
HasReason Ignored = Unit {0}
HasReason (Forgotten reason) = IsLetter (reason_letter reason)
HasReason (Refused reason) = IsLetter (reason_letter reason)
HasReason (Accepted k) = Unit {0}

reason-there : (s : State) (e : Enter) (k : ℕ) → HasReason (verdict_there s e k)
reason-there s e k =
    if-both (terms_are_refused s.hidden e) HasReason (Refused why.Other) _ letter-o
    (if-both (is_halted (stock_at s k)) HasReason (Refused why.Halted) _ letter-h
    (if-both (shares_are_refused e) HasReason (Refused why.Other) _ letter-o
    (if-both (price_is_refused (stock_at s k) e) HasReason (Refused why.Price) _ letter-x
    (if-both (is_full s) HasReason (Refused why.Other) (Accepted k) letter-o tt))))

reason-at : (s : State) (e : Enter) (k : Option ℕ) → HasReason (verdict_at s e k)
reason-at s e None = letter-s
reason-at s e (Some k) = reason-there s e k

reason-is : (s : State) (agent : ℕ) (e : Enter) → HasReason (verdict_of s agent e)
reason-is s agent e =
    if-both (is_remembered s agent e) HasReason Ignored _ tt
    (if-both (is_memory_full s) HasReason (Forgotten why.Other) _ letter-o (reason-at s e (stock_number_of e.stock s.stocks)))

entered-spelled : (s : State) (time agent : ℕ) (e : Enter) (v : Verdict) → AreEnterTexts e → HasReason v → All HasStockTexts s.stocks → IsSpelledOutcome (entered_by s time agent e v)
entered-spelled s time agent e Ignored t reason h = record { stocks = h; replies = All-nil HasReplyTexts }
entered-spelled s time agent e (Forgotten r) t reason h = record { stocks = h; replies = one-reply _ (rejected-texts time e.token (reason_letter r) t.token reason) }
entered-spelled s time agent e (Refused r) t reason h = record { stocks = h; replies = one-reply _ (rejected-texts time e.token (reason_letter r) t.token reason) }
entered-spelled s time agent e (Accepted k) t reason h =
    let c = taking_of time agent e k in
    let w = way_from (remembering s agent e) time agent e k in
    let m = matched w.stock.book e.side e.price e.shares in
    let stock = texts-at s k h in
    let begun : IsSpelledWay w = record { stock = stock; replies = one-reply _ (accepted-texts time (s.counts.orders + 1) e t) } in
    let fills = fills-tokens (record { fills = []; book = w.stock.book; shares = e.shares }) e stock.tokens (All-nil IsFilled) in
    let way = remainder-spelled c e (s.counts.orders + 1) m.shares (all_settled c m.fills w) t.token (all-spelled c m.fills w t.token fills begun) in
    record {
      stocks = All-set HasStockTexts s.stocks k (way_of c e (s.counts.orders + 1) w).stock way.stock h;
      replies = way.replies;
    }

-- ---- a cancel

abbrev IsFoundToken : Option Found → Type 0
IsFoundToken None = Unit {0}
IsFoundToken (Some f) = HasToken f.order

here-token : (k : ℕ) (o : Option Resting) (later : Option Found) → IfSome o HasToken → IsFoundToken later → IsFoundToken (found_here k o later)
here-token k None later h l = l
here-token k (Some o) later h l = h

find-token : (p : Resting → Bool) (w : List Resting) → All HasToken w → IfSome (find p w) HasToken
find-token p [] h = tt
find-token p (x ∷ w) h =
    elim (p x) as (λ b. IfSome (if b then Some x else find p w) HasToken) [ true ↦ All-head HasToken x w h | false ↦ find-token p w (All-tail HasToken x w h) ]

found-token : (k agent : ℕ) (token : Token) (xs : List Stock) → All HasStockTexts xs → IsFoundToken (found_from k agent token xs)
found-token k agent token [] h = tt
found-token k agent token (x ∷ xs) h =
    here-token k (order_of agent token x.book) (found_from (k + 1) agent token xs) (find-token _ x.book (All-head HasStockTexts x xs h).tokens)
    (found-token (k + 1) agent token xs (All-tail HasStockTexts x xs h))

abbrev cancel-by : Bool → State → ℕ → ℕ → Cancel → Found → Outcome
cancel-by t s time agent c f = if t then canceled s time agent c f.stock f.order else unheard s

cancel-by-spelled : (b : Bool) (s : State) (time agent : ℕ) (c : Cancel) (f : Found) → IsToken c.token → HasToken f.order → All HasStockTexts s.stocks → IsSpelledOutcome (cancel-by b s time agent c f)
cancel-by-spelled true s time agent c f own order h = record {
  stocks =
      let stock = texts-at s f.stock h in
      with-texts s f.stock _ (tokens-changed (reduced (open_of f.order c.shares) f.order) (stock_at s f.stock).book order stock.tokens) stock.state h;
  replies = one-reply _ (canceled-texts time c.token (f.order.left - open_of f.order c.shares) 85 own letter-u);
}
cancel-by-spelled false s time agent c f own order h = record { stocks = h; replies = All-nil HasReplyTexts }

cancel-spelled : (s : State) (time agent : ℕ) (c : Cancel) (f : Option Found) → IsToken c.token → IsFoundToken f → All HasStockTexts s.stocks → IsSpelledOutcome (cancel_of s time agent c f)
cancel-spelled s time agent c None own order h = record { stocks = h; replies = All-nil HasReplyTexts }
cancel-spelled s time agent c (Some f) own order h = cancel-by-spelled (nat_lt c.shares f.order.intended) s time agent c f own order h

-- what comes of a message
pub market-spelled : (s : State) (time agent : ℕ) (b : Body) → HasBodyTexts b → All HasStockTexts s.stocks → IsSpelledOutcome (market s time agent b)
market-spelled s time agent (body.Order (inbound.Enter e)) t h = entered-spelled s time agent e (verdict_of s agent e) (enter-parts e t) (reason-is s agent e) h
market-spelled s time agent (body.Order (inbound.Cancel c)) t h =
    cancel-spelled s time agent c (found_from 0 agent c.token s.stocks) (cancel-token c t) (found-token 0 agent c.token s.stocks h) h
market-spelled s time agent (body.Ask k) t h = record {
  stocks = h;
  replies = one-reply (record { to = agent; body = body.Quote (quote_of k (stock_at s k)) }) (texts-at s k h).state;
}
market-spelled s time agent body.Wake t h = record { stocks = h; replies = All-nil HasReplyTexts }
market-spelled s time agent (body.Answer r) t h = record { stocks = h; replies = All-nil HasReplyTexts }
market-spelled s time agent (body.Quote q) t h = record { stocks = h; replies = All-nil HasReplyTexts }

-- ---- changes of rules leave the orders

turned-is : (s : State) (time k letter : ℕ) → letter < 256 → All HasStockTexts s.stocks → All HasStockTexts (turned s time k letter).state.stocks
turned-is s time k letter l h =
    let stock = record (stock_at s k) { trading = letter } in
    if-both ((stock_at s k).trading == letter) (λ (c : Changed). All HasStockTexts c.state.stocks) _ _ h (with-texts s k stock (texts-at s k h).tokens l h)

pub change-texts : (s : State) (time k : ℕ) (c : Change) → All HasStockTexts s.stocks → All HasStockTexts (changed_by s time k c).state.stocks
change-texts s time k (change.Tick bands) h = let x = texts-at s k h in with-texts s k (record (stock_at s k) { bands = bands }) x.tokens x.state h
change-texts s time k (change.Fee fees) h = let x = texts-at s k h in with-texts s k (record (stock_at s k) { fees = fees }) x.tokens x.state h
change-texts s time k change.Halt h = turned-is s time k 72 (omega arith) h
change-texts s time k change.Resume h = turned-is s time k 84 (omega arith) h
