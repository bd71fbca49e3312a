-- What a floor keeps as dated changes are made and messages are delivered.
use Rattle.std.proofs.Common.{◌≡◌, ℕ, ◌+◌, ◌-◌, ◌*◌, ◌≤◌, inl, inr, List, [], ◌∷◌, length, map, All, refl, sym, ap, ◌∙◌, arith, subst}
use Rattle.std.specs.Prelude.{◌==◌, slice_index_or, slice_set}
use Rattle.std.proofs.lemmas.Bool.{cases_lt, cases_eq, cases_Bool}
use Rattle.std.proofs.lemmas.List.{length-map, length-set, set_past, get_or-set_same, get_or-set_other, get_or_past}
use Rattle.std.proofs.lemmas.List.Elements.{All-append, All-cons, All-drop, All-get_or, All-head, All-map, All-nil, All-set, All-tail, All-take, All-weaker}
use Rattle.market_types.specs.declared.feed.Feed.{Feed}
use Rattle.market_types.specs.declared.message.Body.{Body}
use Rattle.market_types.specs.declared.message.Body.TheVariants.{Wake, Order, Answer, Ask, Quote}
use Rattle.market_types.specs.declared.message.Message.{Message}
use Rattle.market_types.specs.declared.message.Quote.{Quote as QuoteData}
use Rattle.market_rules.specs.declared.changes.Dated.{Dated}
use Rattle.market_rules.specs.declared.edit.Param.{Param}
use Rattle.agent_shell.specs.declared.sending.Sending.{Sending}
use Rattle.agent_shell.specs.declared.sending.Sending.TheVariants as sending
use Rattle.agent_shell.specs.Bounds.{IsSending}
use Rattle.agent_shell.specs.Decide.{Decided, choice_of, decided, quoted}
use Rattle.agent_shell.specs.Parameters.{IsOwnParam}
use Rattle.agent_shell.specs.Sight.{Sight}
use Rattle.agent_shell.specs.Sound.{IsTrader}
use Rattle.agent_shell.specs.Trader.{Trader}
use Rattle.agent_shell.specs.Wakeup.{next_wakeup}
use Rattle.agent_shell.proofs.Kept.{all-own, replied-own}
use Rattle.agent_shell.proofs.Sent.{decided-sent}
use Rattle.market_floor.specs.Party.{PartyState, reacted, silenced, with_trader}
use Rattle.exchange_agent.specs.declared.handled.Outgoing.{Outgoing}
use Rattle.exchange_agent.specs.Changes.{changed_by}
use Rattle.exchange_agent.specs.Market.{market}
use Rattle.exchange_agent.specs.State.{State, Stock}
use Rattle.exchange_agent.proofs.Shorts.{short-change}
use Rattle.exchange_agent.proofs.Tellings.{at-change, at-time, keeps-change, keeps-size}
use Rattle.market_floor.specs.declared.opening.Opening.{Opening}
use Rattle.market_floor.specs.declared.posting.Posting.{Posting}
use Rattle.market_floor.specs.declared.posting.Posting.TheVariants as posting
use Rattle.market_floor.specs.Opening.{IsDated, IsOpening}
use Rattle.market_floor.specs.Postings.{earliest_of}
use Rattle.market_floor.specs.Floor.{FloorState, nobody, party_at, with_exchange, with_party}
use Rattle.market_floor.specs.Posted.{to_exchange, to_receiver}
use Rattle.market_floor.specs.Reaction.{Reaction, decided_by, market_reaction, reaction, sight_at, trader_reaction}
use Rattle.market_floor.specs.Ruled.{all_changed, due, ruled}
use Rattle.kernel_copy.specs.Reached.{IsReachedFloor, KeepsKinds}

-- a book has at most so many orders
abbrev pub IsShort : ℕ → Stock → Type 0
IsShort n k = length k.book ≤ n

-- What the exchange's law says of a message.
pub record ShortLaws : Type 0 where
  pub books : (s : State) (time agent n : ℕ) (b : Body) → All (IsShort n) s.stocks → All (IsShort (n + 1)) (market s time agent b).state.stocks
  pub replies : (s : State) (time agent n : ℕ) (b : Body) → All (IsShort n) s.stocks → length (market s time agent b).replies ≤ 2 * n + 2

-- a floor with another exchange of as many stocks
pub reached-exchange : (o : Opening) (n m e : ℕ) (f : FloorState) (s : State) → length s.stocks ≡ length f.exchange.stocks → All (IsShort m) s.stocks
    → IsReachedFloor o n e f → IsReachedFloor o m e (with_exchange s f)
reached-exchange o n m e f s same short h = record {
  stocks = h.stocks ∙ sym same;
  parties = h.parties;
  kinds = h.kinds;
  traders = h.traders;
  books = short;
  offsets = h.offsets;
}

changes-stocks : (ds : List Dated) (s : State) → length (all_changed ds s).state.stocks ≡ length s.stocks
changes-stocks [] s = refl
changes-stocks (d ∷ ds) s = changes-stocks ds (changed_by s d.time d.stock d.change).state ∙ (keeps-change s d.time d.stock d.change).stocks

changes-short : (n : ℕ) (ds : List Dated) (s : State) → All (IsShort n) s.stocks → All (IsShort n) (all_changed ds s).state.stocks
changes-short n [] s h = h
changes-short n (d ∷ ds) s h = changes-short n ds (changed_by s d.time d.stock d.change).state (short-change n s d.time d.stock d.change h)

-- the floor after the dated changes
pub reached-ruled : (o : Opening) (n e applied time : ℕ) (f : FloorState) → IsReachedFloor o n e f → IsReachedFloor o n e (ruled o applied time f).floor
unfolding ruled
reached-ruled o n e applied time f h =
    let ds = due o applied time in
    reached-exchange o n n e f (all_changed ds f.exchange).state (changes-stocks ds f.exchange) (changes-short n ds f.exchange h.books) h

abbrev IsBefore : ℕ → Feed → Type 0
IsBefore time f = f.time ≤ time

at-before : (close time : ℕ) (xs : List Feed) → time ≤ close → All (λ (f : Feed). f.time ≡ time) xs → All (IsBefore close) xs
at-before close time xs early h = All-weaker (λ (f : Feed). f.time ≡ time) (IsBefore close) (λ f q. omega (arith, q, early)) xs h

changes-before : (close : ℕ) (ds : List Dated) (s : State) → All (λ (d : Dated). d.time ≤ close) ds → All (IsBefore close) (all_changed ds s).feed
changes-before close [] s h = All-nil (IsBefore close)
changes-before close (d ∷ ds) s h =
    All-append (IsBefore close) (changed_by s d.time d.stock d.change).feed (all_changed ds (changed_by s d.time d.stock d.change).state).feed
    (at-before close d.time (changed_by s d.time d.stock d.change).feed (All-head (λ (x : Dated). x.time ≤ close) d ds h) (at-change s d.time d.stock d.change))
    (changes-before close ds (changed_by s d.time d.stock d.change).state (All-tail (λ (x : Dated). x.time ≤ close) d ds h))

pub ruled-before : (o : Opening) (applied time : ℕ) (f : FloorState) → IsOpening o → All (IsBefore o.close) (ruled o applied time f).feed
unfolding ruled
ruled-before o applied time f h =
    let P : Dated → Type 0 = λ d. d.time ≤ o.close in
    changes-before o.close (due o applied time) f.exchange
    (All-drop P applied _ (All-take P _ o.dated (All-weaker (λ (d : Dated). IsDated o d) P (λ d q. q.close) o.dated h.dated.each)))

-- What a reaction is like, after so many events.
pub record IsReacted (o : Opening) (n e time : ℕ) (r : Reaction) : Type 0 where
  pub floor : IsReachedFloor o (n + 1) e r.floor
  pub late : All (λ (x : Posting). time ≤ earliest_of time x) r.postings
  pub few : length r.postings ≤ 2 * n + 66
  pub feed : All (λ (f : Feed). f.time ≡ time) r.feed

replies-late : (time : ℕ) (rs : List Outgoing) → All (λ (x : Posting). time ≤ earliest_of time x) (map to_receiver rs)
replies-late time rs = All-map (λ (x : Posting). time ≤ earliest_of time x) to_receiver rs (λ k r l. omega arith)

reacted-market : ShortLaws → (o : Opening) (n e : ℕ) (f : FloorState) (m : Message) → IsReachedFloor o n e f
    → IsReacted o n e m.time (market_reaction o f (market f.exchange m.time m.from m.body))
reacted-market laws o n e f m h =
    let out = market f.exchange m.time m.from m.body in
    let size = keeps-size f.exchange m.time m.from m.body in
    record {
      floor = reached-exchange o n (n + 1) e f out.state size.stocks (laws.books f.exchange m.time m.from n m.body h.books) h;
      late = replies-late m.time out.replies;
      few = omega (arith, laws.replies f.exchange m.time m.from n m.body h.books, length-map out.replies to_receiver);
      feed = at-time f.exchange m.time m.from m.body;
    }

-- a trader's decision keeps its setting and its own list
quoted-trader : (v : Sight) (t : Trader) (q : QuoteData) → IsTrader t → ((quoted v t q).trader.setting ≡ t.setting) × IsTrader (quoted v t q).trader
quoted-trader v t q h = elim (cases_Bool (q.state == 84)) [
  | inl trades ↦ rw trades (refl, record { setting = h.setting; orders = all-own v.symbol (choice_of v t q).wishes t.orders h.orders })
  | inr halted ↦ rw halted (refl, record { setting = h.setting; orders = h.orders })
]

decided-trader : (v : Sight) (t : Trader) (b : Body) → IsTrader t → ((decided v t b).trader.setting ≡ t.setting) × IsTrader (decided v t b).trader
decided-trader v t Wake h = (refl, record { setting = h.setting; orders = h.orders })
decided-trader v t (Order inbound) h = (refl, h)
decided-trader v t (Answer reply) h = (refl, record { setting = h.setting; orders = replied-own reply t.orders h.orders })
decided-trader v t (Ask stock) h = (refl, h)
decided-trader v t (Quote q) h = quoted-trader v t q h

silenced-trader : (t : Trader) (b : Body) → IsTrader t → ((silenced t b).trader.setting ≡ t.setting) × IsTrader (silenced t b).trader
silenced-trader t Wake h = (refl, h)
silenced-trader t (Order inbound) h = (refl, h)
silenced-trader t (Answer reply) h = (refl, record { setting = h.setting; orders = replied-own reply t.orders h.orders })
silenced-trader t (Ask stock) h = (refl, h)
silenced-trader t (Quote q) h = (refl, h)

silenced-sends : (t : Trader) (b : Body) → (silenced t b).sends ≡ []
silenced-sends t Wake = refl
silenced-sends t (Order inbound) = refl
silenced-sends t (Answer reply) = refl
silenced-sends t (Ask stock) = refl
silenced-sends t (Quote q) = refl

-- What a party does with a message.
pub record IsReply (time : ℕ) (t : Trader) (d : Decided) : Type 0 where
  pub setting : d.trader.setting ≡ t.setting
  pub trader : IsTrader t → IsTrader d.trader
  pub late : All (λ (x : Posting). time ≤ earliest_of time x) (map to_exchange d.sends)
  pub few : length d.sends ≤ 66

sent-late : (v : Sight) (t : Trader) (x : Sending) → IsSending v t x → v.time ≤ earliest_of v.time (to_exchange x)
sent-late v t (sending.To body extra) h = omega arith
sent-late v t (sending.WakeAt time) h = omega (arith, h.0)

sends-late : (v : Sight) (t : Trader) (xs : List Sending) → All (IsSending v t) xs → All (λ (x : Posting). v.time ≤ earliest_of v.time x) (map to_exchange xs)
sends-late v t xs h =
    All-map (λ (x : Posting). v.time ≤ earliest_of v.time x) to_exchange xs
    (All-weaker (IsSending v t) (λ (x : Sending). v.time ≤ earliest_of v.time (to_exchange x)) (λ x q. sent-late v t x q) xs h)

reply-silenced : (time : ℕ) (t : Trader) (b : Body) → IsTrader t → IsReply time t (silenced t b)
reply-silenced time t b h =
    let k = silenced-trader t b h in
    record {
      setting = k.0;
      trader = λ q. k.1;
      late = rw (silenced-sends t b) (All-nil (λ (x : Posting). time ≤ earliest_of time x));
      few = rw (silenced-sends t b) (omega arith);
    }

reply-decided : (v : Sight) (t : Trader) (b : Body) → IsTrader t → IsReply v.time t (decided v t b)
reply-decided v t b h =
    let k = decided-trader v t b h in
    let s = decided-sent v t b h in
    record {
      setting = k.0;
      trader = λ q. k.1;
      late = sends-late v t (decided v t b).sends s.each;
      few = omega (arith, s.few);
    }

reply-party : (v : Sight) (p : PartyState) (b : Body) → IsTrader p.trader → IsReply v.time p.trader (reacted v p b)
reply-party v p b h = elim (cases_Bool p.silent) [
  | inl still ↦ rw still (reply-silenced v.time p.trader b h)
  | inr loud ↦ rw loud (reply-decided v p.trader b h)
]

-- where there is no trader of a number, nothing changes
party-missing : (f : FloorState) (agent : ℕ) (p : PartyState) → length f.parties ≤ agent - 1 → with_party agent p f ≡ f
party-missing f agent p h = ap (λ (ps : List PartyState). let g : FloorState = record { exchange = f.exchange; parties = ps; offsets = f.offsets } in g) (set_past f.parties (agent - 1) p h)

two-late : (time : ℕ) (x y : Posting) → time ≤ earliest_of time x → time ≤ earliest_of time y → All (λ (z : Posting). time ≤ earliest_of time z) (x ∷ y ∷ [])
two-late time x y h k =
    let P : Posting → Type 0 = λ z. time ≤ earliest_of time z in
    All-cons P x (y ∷ []) h (All-cons P y [] k (All-nil P))

nobody-reply : (v : Sight) (b : Body) → (All (λ (x : Posting). v.time ≤ earliest_of v.time x) (map to_exchange (reacted v nobody b).sends)) × (length (reacted v nobody b).sends ≤ 66)
nobody-reply v Wake = (two-late v.time (posting.To 0 (Ask 0) 0) (posting.WakeAt (next_wakeup v nobody.trader)) (omega arith) (omega arith), omega arith)
nobody-reply v (Order inbound) = (All-nil (λ (x : Posting). v.time ≤ earliest_of v.time x), omega arith)
nobody-reply v (Answer reply) = (All-nil (λ (x : Posting). v.time ≤ earliest_of v.time x), omega arith)
nobody-reply v (Ask stock) = (All-nil (λ (x : Posting). v.time ≤ earliest_of v.time x), omega arith)
nobody-reply v (Quote q) = elim (cases_Bool (q.state == 84)) [
  | inl trades ↦ rw trades (All-nil (λ (x : Posting). v.time ≤ earliest_of v.time x), omega arith)
  | inr halted ↦ rw halted (All-nil (λ (x : Posting). v.time ≤ earliest_of v.time x), omega arith)
]

-- the kind of each trader, where one is replaced by one whose kind keeps the parameters
pub kinds-party : (o : Opening) (f : FloorState) (agent : ℕ) (p : PartyState) → KeepsKinds o f
    → ((name : Param) (value : ℕ) → IsOwnParam (party_at f agent).trader.setting.kind name value → IsOwnParam p.trader.setting.kind name value)
    → KeepsKinds o (with_party agent p f)
kinds-party o f agent p h keeps =
    λ a name value q.
    let P : PartyState → Type 0 = λ x. IsOwnParam x.trader.setting.kind name value in
    elim (cases_lt (agent - 1) (length f.parties)) [
      | inr past ↦ subst P (sym (ap (λ (g : FloorState). party_at g a) (party-missing f agent p past))) (h a name value q)
      | inl within ↦ elim (cases_eq (a - 1) (agent - 1)) [
        | inl same ↦
            let was = subst P (ap (λ (i : ℕ). slice_index_or f.parties i nobody) same) (h a name value q) in
            subst P (sym (ap (λ (i : ℕ). slice_index_or (slice_set f.parties (agent - 1) p) i nobody) same ∙ get_or-set_same f.parties (agent - 1) p nobody within)) (keeps name value was)
        | inr other ↦ subst P (sym (get_or-set_other f.parties (agent - 1) (a - 1) p nobody other)) (h a name value q)
      ]
    ]

-- a floor with another trader of a number
pub reached-party : (o : Opening) (n e agent : ℕ) (f : FloorState) (p : PartyState) → IsTrader p.trader
    → ((name : Param) (value : ℕ) → IsOwnParam (party_at f agent).trader.setting.kind name value → IsOwnParam p.trader.setting.kind name value)
    → IsReachedFloor o n e f → IsReachedFloor o n e (with_party agent p f)
reached-party o n e agent f p sound keeps h = record {
  stocks = h.stocks;
  parties = h.parties ∙ sym (length-set f.parties (agent - 1) p);
  kinds = kinds-party o f agent p h.kinds keeps;
  traders = All-set (λ (x : PartyState). IsTrader x.trader) f.parties (agent - 1) p sound h.traders;
  books = h.books;
  offsets = h.offsets;
}

-- after one event more no book is too long either
pub reached-later : (o : Opening) (n e : ℕ) (f : FloorState) → IsReachedFloor o n e f → IsReachedFloor o (n + 1) e f
reached-later o n e f h = record {
  stocks = h.stocks;
  parties = h.parties;
  kinds = h.kinds;
  traders = h.traders;
  books = All-weaker (IsShort n) (IsShort (n + 1)) (λ k q. omega (arith, q)) f.exchange.stocks h.books;
  offsets = h.offsets;
}

reacted-trader : (o : Opening) (n e : ℕ) (f : FloorState) (m : Message) → IsReachedFloor o n e f
    → IsReacted o n e m.time (trader_reaction f m.to (party_at f m.to) (decided_by o f.exchange f.offsets (party_at f m.to) m))
reacted-trader o n e f m h = elim (cases_lt (m.to - 1) (length f.parties)) [
  | inl within ↦
      let p = party_at f m.to in
      let v = sight_at o f.exchange f.offsets p.trader.setting.stock m.time in
      let sound = All-get_or (λ (x : PartyState). IsTrader x.trader) f.parties (m.to - 1) nobody within h.traders in
      let d = reacted v p m.body in
      let k = reply-party v p m.body sound in
      record {
        floor = reached-party o (n + 1) e m.to f (with_trader d.trader p) (k.trader sound)
            (λ name value q. subst (λ (s : _). IsOwnParam s.kind name value) (sym k.setting) q) (reached-later o n e f h);
        late = k.late;
        few = omega (arith, k.few, length-map d.sends to_exchange);
        feed = All-nil (λ (x : Feed). x.time ≡ m.time);
      }
  | inr past ↦
      let none : party_at f m.to ≡ nobody = get_or_past f.parties (m.to - 1) nobody past in
      let v = sight_at o f.exchange f.offsets nobody.trader.setting.stock m.time in
      let k = nobody-reply v m.body in
      let d = reacted v nobody m.body in
      rw none (record {
        floor = subst (λ (g : FloorState). IsReachedFloor o (n + 1) e g) (sym (party-missing f m.to (with_trader d.trader nobody) past)) (reached-later o n e f h);
        late = k.0;
        few = omega (arith, k.1, length-map d.sends to_exchange);
        feed = All-nil (λ (x : Feed). x.time ≡ m.time);
      })
]

-- what the receiver of a message does
pub reacted-is : ShortLaws → (o : Opening) (n e : ℕ) (f : FloorState) (m : Message) → IsReachedFloor o n e f → IsReacted o n e m.time (reaction o f m)
unfolding reaction
reacted-is laws o n e f m h = elim (cases_Bool (m.to == 0)) [
  | inl exchange ↦ rw exchange (reacted-market laws o n e f m h)
  | inr trader ↦ rw trader (reacted-trader o n e f m h)
]
