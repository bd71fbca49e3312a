-- Feed messages name their stocks and have the time of what they tell.
use Rattle.std.proofs.Common.{◌≡◌, ℕ, zero, suc, ◌+◌, ◌-◌, Bool, true, false, List, [], ◌∷◌, All, Option, Some, None, arith, refl, ap, sym, ◌∙◌, slice_index_or, slice_set}
use Rattle.std.specs.Prelude.{◌==◌, nat_lt, bytes_eq, if◌then◌else◌, IfSome}
use Rattle.std.proofs.lemmas.List.Elements.{All-append, All-cons, All-nil, All-weaker}
use Rattle.std.proofs.lemmas.List.Quantifiers.{position-Some}
use Rattle.std.proofs.lemmas.Slice.Eq.{bytes_eq-Decides}
use Rattle.market_types.specs.declared.feed.Feed.{Feed}
use Rattle.market_types.specs.declared.feed.What.{What}
use Rattle.market_types.specs.declared.feed.What.TheVariants as what
use Rattle.market_types.specs.declared.message.Body.{Body}
use Rattle.market_types.specs.declared.message.Body.TheVariants as body
use Rattle.market_types.specs.declared.order.Cancel.{Cancel}
use Rattle.market_types.specs.declared.order.Enter.{Enter}
use Rattle.market_types.specs.declared.order.Inbound.TheVariants as inbound
use Rattle.market_types.specs.declared.order.Side.TheVariants.{Buy}
use Rattle.market_types.specs.declared.order.Symbol.{Symbol}
use Rattle.market_rules.specs.declared.changes.Change.{Change}
use Rattle.market_rules.specs.declared.changes.Change.TheVariants as change
use Rattle.price_time_book.specs.declared.resting.Fill.{Fill}
use Rattle.price_time_book.specs.declared.resting.Resting.{Resting}
use Rattle.price_time_book.specs.Matched.{matched}
use Rattle.exchange_agent.specs.declared.cancel.Found.{Found}
use Rattle.exchange_agent.specs.declared.settle.Taking.{Taking}
use Rattle.exchange_agent.specs.declared.verdict.Verdict.{Verdict}
use Rattle.exchange_agent.specs.declared.verdict.Verdict.TheVariants.{Ignored, Forgotten, Refused, Accepted}
use Rattle.exchange_agent.specs.Cancel.{cancel_of, canceled, found_from, lowered_feed, open_of, unheard}
use Rattle.exchange_agent.specs.Changes.{Changed, changed_by, turned}
use Rattle.exchange_agent.specs.Enter.{accepted, added_feed, entered_by, remainder, remembering, taking_of, verdict_of, way_from, way_of}
use Rattle.exchange_agent.specs.Market.{market}
use Rattle.exchange_agent.specs.Outcome.{Outcome}
use Rattle.exchange_agent.specs.Runs.{Act, message, change as change_act, state_after}
use Rattle.exchange_agent.specs.Settle.{Way, all_settled, fed, settled}
use Rattle.exchange_agent.specs.State.{State, Stock, no_stock, stands_still, stock_at, trades, with_stock}
use Rattle.market_laws.specs.Feeds.{feed_by, feed_over}
use Rattle.market_laws.specs.Named.{NamesItsStock, symbol_in, time_of}
use Rattle.market_laws.proofs.SmallVerdicts.{acceptable}

-- A message has a time, and names its stock among those of a state.
record IsTold (s : State) (time : ℕ) (m : Feed) : Type 0 where
  named : NamesItsStock s m
  at : m.time ≡ time

abbrev AreTold : State → ℕ → List Feed → Type 0
AreTold s time feed = All (IsTold s time) feed

none-told : (s : State) (time : ℕ) → AreTold s time []
none-told s time = All-nil (IsTold s time)

one-told : (s : State) (time : ℕ) (m : Feed) → NamesItsStock s m → m.time ≡ time → AreTold s time (m ∷ [])
one-told s time m named at = All-cons (IsTold s time) m [] (record { named = named; at = at }) (none-told s time)

if-told : (b : Bool) (s : State) (time : ℕ) (m : Feed) → NamesItsStock s m → m.time ≡ time → AreTold s time (if b then m ∷ [] else [])
if-told true s time m named at = one-told s time m named at
if-told false s time m named at = none-told s time

-- What one message or change tells, and that all symbols stay.
record IsNamedStep (s after : State) (time : ℕ) (feed : List Feed) : Type 0 where
  symbols : (j : ℕ) → (stock_at after j).symbol ≡ (stock_at s j).symbol
  told : AreTold s time feed

symbol-set : (xs : List Stock) (j k : ℕ) (x : Stock) → x.symbol ≡ (slice_index_or xs k no_stock).symbol → (slice_index_or (slice_set xs k x) j no_stock).symbol ≡ (slice_index_or xs j no_stock).symbol
symbol-set [] j k x e = refl
symbol-set (y ∷ ys) zero zero x e = e
symbol-set (y ∷ ys) zero (suc k) x e = refl
symbol-set (y ∷ ys) (suc j) zero x e = refl
symbol-set (y ∷ ys) (suc j) (suc k) x e = symbol-set ys j k x e

still : (s after : State) (time : ℕ) → after.stocks ≡ s.stocks → IsNamedStep s after time []
still s after time same = record { symbols = λ j. ap (λ (xs : List Stock). (slice_index_or xs j no_stock).symbol) same; told = none-told s time }

moved : (s : State) (k time : ℕ) (x : Stock) (feed : List Feed) → x.symbol ≡ (stock_at s k).symbol → AreTold s time feed → IsNamedStep s (with_stock s k x) time feed
moved s k time x feed same told = record { symbols = λ j. symbol-set s.stocks j k x same; told = told }

-- the stock of a locate
back : (s : State) (k : ℕ) → (stock_at s k).symbol ≡ (stock_at s (k + 1 - 1)).symbol
back s k = let same : k ≡ k + 1 - 1 = omega arith in ap (λ (n : ℕ). (stock_at s n).symbol) same

-- ---- an Enter

abbrev match-by : Bool → Symbol → ℕ → Fill → What
match-by b symbol number f = if b then what.Executed f.resting.reference f.shares number else what.Trade 0 Buy f.shares symbol f.resting.price number

match-named : (b : Bool) (symbol name : Symbol) (number : ℕ) (f : Fill) → symbol ≡ name → IfSome (symbol_in (match-by b symbol number f)) (λ (x : Symbol). x ≡ name)
match-named true symbol name number f e = tt
match-named false symbol name number f e = e

settled-symbol : (t : Taking) (fills : List Fill) (w : Way) → (all_settled t fills w).stock.symbol ≡ w.stock.symbol
settled-symbol t [] w = refl
settled-symbol t (f ∷ fs) w = settled-symbol t fs (settled t f w)

settled-told : (s : State) (t : Taking) (fills : List Fill) (w : Way) → w.stock.symbol ≡ (stock_at s (t.locate - 1)).symbol → AreTold s t.time w.feed → AreTold s t.time (all_settled t fills w).feed
settled-told s t [] w e h = h
settled-told s t (f ∷ fs) w e h =
    let m = fed t.locate t.time w.stock.symbol (w.matches + 1) f in
    settled-told s t fs (settled t f w) e
    (All-append (IsTold s t.time) w.feed (m ∷ []) h (one-told s t.time m (match-named f.resting.shown w.stock.symbol (stock_at s (t.locate - 1)).symbol (w.matches + 1) f e) refl))

if-both : (b : Bool) (P : Way → Type 0) (x y : Way) → P x → P y → P (if b then x else y)
if-both true P x y p q = p
if-both false P x y p q = q

remainder-told : (s : State) (t : Taking) (e : Enter) (reference left : ℕ) (w : Way) → e.stock ≡ (stock_at s (t.locate - 1)).symbol → AreTold s t.time w.feed → AreTold s t.time (remainder t e reference left w).feed
remainder-told s t e reference left w same h =
    if-both (left == 0) (λ (v : Way). AreTold s t.time v.feed) w _ h
    (if-both (e.tif == 0) (λ (v : Way). AreTold s t.time v.feed) _ _ h
    (All-append (IsTold s t.time) w.feed (added_feed t e reference left) h (if-told (e.display == 89) s t.time (record { locate = t.locate; tracking = 0; time = t.time; what = what.Add reference e.side left e.stock e.price }) same refl)))

remainder-symbol : (t : Taking) (e : Enter) (reference left : ℕ) (w : Way) → (remainder t e reference left w).stock.symbol ≡ w.stock.symbol
remainder-symbol t e reference left w =
    if-both (left == 0) (λ (v : Way). v.stock.symbol ≡ w.stock.symbol) w _ refl (if-both (e.tif == 0) (λ (v : Way). v.stock.symbol ≡ w.stock.symbol) _ _ refl refl)

entered-stock : (s : State) (e : Enter) (k : ℕ) → bytes_eq (stock_at s k).symbol.0 e.stock.0 ≡ true → e.stock ≡ (stock_at s k).symbol
entered-stock s e k same =
    let bytes : (stock_at s k).symbol.0 ≡ e.stock.0 = (bytes_eq-Decides (stock_at s k).symbol.0 e.stock.0).0 same in
    let symbol : List ℕ → Symbol = λ (b : List ℕ). record { 0 = b } in
    ap symbol (sym bytes)

accepted-named : (s : State) (time agent : ℕ) (e : Enter) (k : ℕ) → verdict_of s agent e ≡ Accepted k → IsNamedStep s (accepted (remembering s agent e) time agent e k).state time (accepted (remembering s agent e) time agent e k).feed
accepted-named s time agent e k is =
    let ok = acceptable s agent e k is in
    let place = position-Some _ s.stocks k no_stock ok.number in
    let t = taking_of time agent e k in
    let w = way_from (remembering s agent e) time agent e k in
    let m = matched w.stock.book e.side e.price e.shares in
    let v = all_settled t m.fills w in
    let z = way_of t e (s.counts.orders + 1) w in
    let entered : e.stock ≡ (stock_at s k).symbol = entered-stock s e k place.1 in
    let same : z.stock.symbol ≡ (stock_at s k).symbol = remainder-symbol t e (s.counts.orders + 1) m.shares v ∙ settled-symbol t m.fills w in
    record {
      symbols = λ j. symbol-set s.stocks j k z.stock same;
      told = remainder-told s t e (s.counts.orders + 1) m.shares v (entered ∙ back s k) (settled-told s t m.fills w (back s k) (none-told s time));
    }

entered-named : (s : State) (time agent : ℕ) (e : Enter) (v : Verdict) → verdict_of s agent e ≡ v → IsNamedStep s (entered_by s time agent e v).state time (entered_by s time agent e v).feed
entered-named s time agent e Ignored is = still s (entered_by s time agent e Ignored).state time refl
entered-named s time agent e (Forgotten reason) is = still s (entered_by s time agent e (Forgotten reason)).state time refl
entered-named s time agent e (Refused reason) is = still s (entered_by s time agent e (Refused reason)).state time refl
entered-named s time agent e (Accepted k) is = accepted-named s time agent e k is

-- ---- a Cancel

abbrev lowering-by : Bool → Resting → ℕ → What
lowering-by b o left = if b then what.Delete o.reference else what.Cancel o.reference (o.left - left)

lowering-named : (b : Bool) (o : Resting) (left : ℕ) (name : Symbol) → IfSome (symbol_in (lowering-by b o left)) (λ (x : Symbol). x ≡ name)
lowering-named true o left name = tt
lowering-named false o left name = tt

lowered-told : (s : State) (locate time : ℕ) (o : Resting) (left : ℕ) → AreTold s time (lowered_feed locate time o left)
lowered-told s locate time o left =
    if-told o.shown s time (record { locate = locate; tracking = 0; time = time; what = lowering-by (left == 0) o left }) (lowering-named (left == 0) o left (stock_at s (locate - 1)).symbol) refl

abbrev cancel-by : Bool → State → ℕ → ℕ → Cancel → Found → Outcome
cancel-by b s time agent c f = if b then canceled s time agent c f.stock f.order else unheard s

canceled-named : (b : Bool) (s : State) (time agent : ℕ) (c : Cancel) (f : Found) → IsNamedStep s (cancel-by b s time agent c f).state time (cancel-by b s time agent c f).feed
canceled-named true s time agent c f = record {
  symbols = λ j. symbol-set s.stocks j f.stock _ refl;
  told = lowered-told s (f.stock + 1) time f.order (open_of f.order c.shares);
}
canceled-named false s time agent c f = still s (unheard s).state time refl

cancel-named : (s : State) (time agent : ℕ) (c : Cancel) (f : Option Found) → IsNamedStep s (cancel_of s time agent c f).state time (cancel_of s time agent c f).feed
cancel-named s time agent c None = still s (unheard s).state time refl
cancel-named s time agent c (Some f) = canceled-named (nat_lt c.shares f.order.intended) s time agent c f

-- ---- any message, and any change of rules

market-named : (s : State) (time agent : ℕ) (b : Body) → IsNamedStep s (market s time agent b).state time (market s time agent b).feed
market-named s time agent (body.Order (inbound.Enter e)) = entered-named s time agent e (verdict_of s agent e) refl
market-named s time agent (body.Order (inbound.Cancel c)) = cancel-named s time agent c (found_from 0 agent c.token s.stocks)
market-named s time agent (body.Ask k) = still s s time refl
market-named s time agent body.Wake = still s s time refl
market-named s time agent (body.Answer r) = still s s time refl
market-named s time agent (body.Quote q) = still s s time refl

abbrev turned-way : Bool → State → ℕ → ℕ → ℕ → Changed
turned-way b s time k letter =
    if b then record { state = s; feed = [] }
    else record {
      state = with_stock s k (record (stock_at s k) { trading = letter });
      feed = record { locate = k + 1; tracking = 0; time = time; what = what.Trading (stock_at s k).symbol letter 32 (32 ∷ 32 ∷ 32 ∷ 32 ∷ []) } ∷ [];
    }

turned-by : (b : Bool) (s : State) (time k letter : ℕ) → IsNamedStep s (turned-way b s time k letter).state time (turned-way b s time k letter).feed
turned-by true s time k letter = still s s time refl
turned-by false s time k letter =
    moved s k time (record (stock_at s k) { trading = letter }) (turned-way false s time k letter).feed refl
    (one-told s time (record { locate = k + 1; tracking = 0; time = time; what = what.Trading (stock_at s k).symbol letter 32 (32 ∷ 32 ∷ 32 ∷ 32 ∷ []) }) (back s k) refl)

turned-named : (s : State) (time k letter : ℕ) → IsNamedStep s (turned s time k letter).state time (turned s time k letter).feed
turned-named s time k letter = turned-by ((stock_at s k).trading == letter) s time k letter

changed-named : (s : State) (time k : ℕ) (c : Change) → IsNamedStep s (changed_by s time k c).state time (changed_by s time k c).feed
changed-named s time k (change.Tick bands) = moved s k time (record (stock_at s k) { bands = bands }) [] refl (none-told s time)
changed-named s time k (change.Fee fees) = moved s k time (record (stock_at s k) { fees = fees }) [] refl (none-told s time)
changed-named s time k change.Halt = turned-named s time k stands_still
changed-named s time k change.Resume = turned-named s time k trades

act-named : (s : State) (a : Act) → IsNamedStep s (state_after s a) (time_of a) (feed_by s a)
act-named s (message time from b) = market-named s time from b
act-named s (change_act time k c) = changed-named s time k c

pub told-in-time : (s : State) (a : Act) → All (λ (m : Feed). m.time ≡ time_of a) (feed_by s a)
told-in-time s a = All-weaker (IsTold s (time_of a)) (λ (m : Feed). m.time ≡ time_of a) (λ m h. h.at) (feed_by s a) (act-named s a).told

named-as : (q : Option Symbol) (a b : Symbol) → a ≡ b → IfSome q (λ (x : Symbol). x ≡ a) → IfSome q (λ (x : Symbol). x ≡ b)
named-as None a b e h = h
named-as (Some x) a b e h = h ∙ e

pub all-named : (s : State) (acts : List Act) → All (NamesItsStock s) (feed_over s acts)
all-named s [] = All-nil (NamesItsStock s)
all-named s (a ∷ acts) =
    let next = state_after s a in
    let one = act-named s a in
    let first : All (NamesItsStock s) (feed_by s a) = All-weaker (IsTold s (time_of a)) (NamesItsStock s) (λ m h. h.named) (feed_by s a) one.told in
    let rest : All (NamesItsStock s) (feed_over next acts) = All-weaker (NamesItsStock next) (NamesItsStock s) (λ m h. named-as (symbol_in m.what) (stock_at next (m.locate - 1)).symbol (stock_at s (m.locate - 1)).symbol (one.symbols (m.locate - 1)) h) (feed_over next acts) (all-named next acts) in
    All-append (NamesItsStock s) (feed_by s a) (feed_over next acts) first rest
