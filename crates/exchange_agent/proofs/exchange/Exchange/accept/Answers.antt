use Rattle.std.proofs.Common.{◌≡◌, ◌<◌, ◌+◌, ℕ, ℤ, List, length, Bool, true, false, arith, ap, ◌∙◌, sym, subst, refl, rules}
use Rattle.market_types.specs.declared.message.Body.TheVariants.{Answer}
use Rattle.exchange_agent.specs.declared.verdict.Verdict.TheVariants.{Accepted, Ignored}
use Rattle.exchange_agent.specs.Enter.{acceptance_of, entered_by, is_remembered, taking_of}
use Rattle.exchange_agent.specs.Pairs.{has_pair, pair_of}
use Rattle.exchange_agent.specs.Settle.{Way}
use Rattle.exchange_agent.specs.State.{State}
use Rattle.exchange_agent.specs.View.{state_of, stock_of, way_at}
use Rattle.std.specs.List.{slice_set}
use Rattle.std.specs.Prelude.{if◌then◌else◌, map}
use Rattle.exchange_agent.specs.declared.listing.Listing.{Listing}
use Rattle.exchange_agent.specs.declared.pair.Pair.{Pair}
use Rattle.exchange_agent.specs.declared.told.Counts.{Counts}
use Rattle.exchange_agent.specs.Sound.{IsSound}
use Rattle.exchange_agent.proofs.Admissions.{not-there, on-false, on-true, there}
use Rattle.exchange_agent.proofs.Accepts.{state-accepted, state-refused, way-accepted, way-clean}
use Rattle.exchange_agent.proofs.Knowns.{sound-accepted}
use Rattle.exchange_agent.proofs.States.{in-stocks, sound-stock}
use Rattle.exchange_agent.proofs.exchange.Exchange.accept.Goals as goal

pub admit-requires-clause-stock : goal.admit-requires-clause-stock
admit-requires-clause-stock c =
    let i = c.self.inside in
    let view : c.args.self.now ≡ state_of i.stocks.items i.cash.items i.pairs.keys i.counts i.hidden = search rules in
    sound-stock i.stocks.items i.cash.items i.pairs.keys i.counts i.hidden c.args.self.now c.args.stock c.args.stock c.index_mut-listing.result.now view c.self.invariant refl c.requires.stock (search rules)

few-stocks : (s : State) (stocks : List Listing) (cash : List ℤ) (pairs : List Pair) (counts : Counts) (hidden : Bool) (k : ℕ) → s ≡ state_of stocks cash pairs counts hidden → IsSound (state_of stocks cash pairs counts hidden) → k < length s.stocks → k < 16
few-stocks s stocks cash pairs counts hidden k e sound h = let long : length s.stocks ≡ length (map stock_of stocks) = ap (λ (q : State). length q.stocks) e in omega (arith, long, sound.few, h)

pub overflow_cast-taking : goal.overflow_cast-taking
overflow_cast-taking c =
    let i = c.self.inside in
    let view : c.args.self.now ≡ state_of i.stocks.items i.cash.items i.pairs.keys i.counts i.hidden = search rules in
    let few : c.args.stock < 16 = few-stocks c.args.self.now i.stocks.items i.cash.items i.pairs.keys i.counts i.hidden c.args.stock view c.self.invariant c.requires.stock in
    search (rules, few)

pub overflow_add-taking : goal.overflow_add-taking
overflow_add-taking c =
    let i = c.self.inside in
    let view : c.args.self.now ≡ state_of i.stocks.items i.cash.items i.pairs.keys i.counts i.hidden = search rules in
    let few : c.args.stock < 16 = few-stocks c.args.self.now i.stocks.items i.cash.items i.pairs.keys i.counts i.hidden c.args.stock view c.self.invariant c.requires.stock in
    search (rules, few)

pub invariant_of-self : goal.invariant_of-self
invariant_of-self c =
    let i = c.self.inside in
    let e = c.in_default.ensures in
    subst (λ (q : State). IsSound q)
    (sym (state-refused i.stocks.items i.cash.items c.admit.new.cash.items i.pairs.keys c.admit.new.pairs.keys i.counts c.admit.new.counts i.hidden c.args.stock c.index_mut-listing.result.now c.admit.new.listing (search rules) e.stock_refused e.cash_refused e.pairs_refused e.counts_refused))
    c.self.invariant

pub returns-in_default-clause-exchange_refused : goal.returns-in_default-clause-exchange_refused
returns-in_default-clause-exchange_refused c =
    let i = c.self.inside in
    let e = c.in_default.ensures in
    let view : c.args.self.now ≡ state_of i.stocks.items i.cash.items i.pairs.keys i.counts i.hidden = search rules in
    state-refused i.stocks.items i.cash.items c.admit.new.cash.items i.pairs.keys c.admit.new.pairs.keys i.counts c.admit.new.counts i.hidden c.args.stock c.index_mut-listing.result.now c.admit.new.listing (search rules) e.stock_refused e.cash_refused e.pairs_refused e.counts_refused ∙ sym view

pub invariant_of-self-else-not-admitted : goal.invariant_of-self-else-not-admitted
invariant_of-self-else-not-admitted c =
    let i = c.self.inside in
    let o = c.in-Ok.ensures in
    let b = c.in-Ok.admitted in
    let went = c.if-not-admitted.false in
    let pair = pair_of c.args.from c.args.e.now.token in
    let view : c.args.self.now ≡ state_of i.stocks.items i.cash.items i.pairs.keys i.counts i.hidden = search rules in
    let new : has_pair pair i.pairs.keys ≡ false = not-there b (has_pair pair i.pairs.keys) o.new went in
    let long : length c.args.self.now.pairs ≡ length i.pairs.keys = ap (λ (q : State). length q.pairs) view in
    sound-accepted i.stocks.items i.cash.items c.admit.new.cash.items i.pairs.keys pair c.admit.new.pairs.keys i.counts c.admit.new.counts i.hidden c.args.stock c.admit.new.listing c.self.invariant (on-true b _ went o.pairs) new (omega (arith, long, c.requires.room)) c.admit.ensures.same (ap (λ (n : Counts). n.orders) (on-true b _ went o.counts)) (on-true b _ went o.matches) (on-true b _ went o.money) (on-true b _ went o.stock)

pub returns-else-not-admitted-clause-state : goal.returns-else-not-admitted-clause-state
returns-else-not-admitted-clause-state c =
    let i = c.self.inside in
    let s = c.args.self.now in
    let e = c.args.e.now in
    let k = c.args.stock in
    let r = c.index_mut-listing.result.now in
    let o = c.in-Ok.ensures in
    let b = c.in-Ok.admitted in
    let went = c.if-not-admitted.false in
    let pair = pair_of c.args.from e.token in
    let view : s ≡ state_of i.stocks.items i.cash.items i.pairs.keys i.counts i.hidden = search rules in
    let new : is_remembered s c.args.from e ≡ false = ap (λ (q : State). has_pair pair q.pairs) view ∙ not-there b (has_pair pair i.pairs.keys) o.new went in
    let v = way_at c.admit.new.listing c.admit.new.cash.items c.admit.new.counts.matches c.admit.new.out in
    let inside : k < length i.stocks.items = in-stocks i.stocks.items i.cash.items i.pairs.keys i.counts i.hidden s k k view refl c.requires.stock in
    let clean = way-clean (taking_of c.args.time c.args.from e k) e (i.counts.orders + 1) (stock_of r) i.cash.items i.counts.matches (record { to = c.args.from; body = Answer (acceptance_of c.args.time e (i.counts.orders + 1)) }) c.args.out.now.replies.list c.args.out.now.feed.list c.args.out.now.fee c.requires.no_replies c.requires.no_feed c.requires.no_fee in
    let way = way-accepted s i.stocks.items i.cash.items i.pairs.keys i.counts i.hidden c.args.time c.args.from e k r v view inside (search rules) (on-true b _ went o.way ∙ clean) in
    state-accepted s i.stocks.items i.cash.items c.admit.new.cash.items i.pairs.keys c.admit.new.pairs.keys i.counts c.admit.new.counts i.hidden c.args.time c.args.from e k c.admit.new.listing v view (on-true b _ went o.pairs) (on-true b _ went o.counts) refl refl way
    ∙ ap (λ (t : Bool). (entered_by s c.args.time c.args.from e (if t then Ignored else Accepted k)).state) (sym new)

pub invariant_of-self-then-not-admitted : goal.invariant_of-self-then-not-admitted
invariant_of-self-then-not-admitted c =
    let i = c.self.inside in
    let o = c.in-Ok.ensures in
    let b = c.in-Ok.admitted in
    let went = c.if-not-admitted.true in
    let kept = on-false b _ went o.ignored in
    subst (λ (q : State). IsSound q)
    (sym (state-refused i.stocks.items i.cash.items c.admit.new.cash.items i.pairs.keys c.admit.new.pairs.keys i.counts c.admit.new.counts i.hidden c.args.stock c.index_mut-listing.result.now c.admit.new.listing (search rules) kept.0 kept.1 kept.2 kept.3))
    c.self.invariant

pub returns-then-not-admitted-clause-state : goal.returns-then-not-admitted-clause-state
returns-then-not-admitted-clause-state c =
    let i = c.self.inside in
    let s = c.args.self.now in
    let o = c.in-Ok.ensures in
    let b = c.in-Ok.admitted in
    let went = c.if-not-admitted.true in
    let pair = pair_of c.args.from c.args.e.now.token in
    let view : s ≡ state_of i.stocks.items i.cash.items i.pairs.keys i.counts i.hidden = search rules in
    let old : is_remembered s c.args.from c.args.e.now ≡ true = ap (λ (q : State). has_pair pair q.pairs) view ∙ there b (has_pair pair i.pairs.keys) o.new went in
    let kept = on-false b _ went o.ignored in
    let same : state_of (slice_set i.stocks.items c.args.stock c.admit.new.listing) c.admit.new.cash.items c.admit.new.pairs.keys c.admit.new.counts i.hidden ≡ s =
    state-refused i.stocks.items i.cash.items c.admit.new.cash.items i.pairs.keys c.admit.new.pairs.keys i.counts c.admit.new.counts i.hidden c.args.stock c.index_mut-listing.result.now c.admit.new.listing (search rules) kept.0 kept.1 kept.2 kept.3 ∙ sym view in
    c.ignore_enter.ensures
    ∙ ap (λ (q : State). record q { counts = record q.counts { enters = q.counts.enters + 1 } }) same
    ∙ ap (λ (t : Bool). (entered_by s c.args.time c.args.from c.args.e.now (if t then Ignored else Accepted c.args.stock)).state) (sym old)

pub admit-requires-clause-exists : goal.admit-requires-clause-exists
admit-requires-clause-exists c =
    let i = c.self.inside in
    let view : c.args.self.now ≡ state_of i.stocks.items i.cash.items i.pairs.keys i.counts i.hidden = search rules in
    omega (arith, c.requires.exists, ap (λ (q : State). length q.cash) view)

pub admit-requires-clause-some_orders : goal.admit-requires-clause-some_orders
admit-requires-clause-some_orders c =
    let i = c.self.inside in
    let view : c.args.self.now ≡ state_of i.stocks.items i.cash.items i.pairs.keys i.counts i.hidden = search rules in
    omega (arith, c.requires.room, ap (λ (q : State). length q.pairs) view, c.self.invariant.orders)

pub admit-requires-clause-some_pairs : goal.admit-requires-clause-some_pairs
admit-requires-clause-some_pairs c =
    let i = c.self.inside in
    let view : c.args.self.now ≡ state_of i.stocks.items i.cash.items i.pairs.keys i.counts i.hidden = search rules in
    omega (arith, c.requires.room, ap (λ (q : State). length q.pairs) view)

pub admit-requires-clause-matches : goal.admit-requires-clause-matches
admit-requires-clause-matches c = c.self.invariant.matches

pub admit-requires-clause-money : goal.admit-requires-clause-money
admit-requires-clause-money c = c.self.invariant.cash

-- what is told of an order that is accepted: that of its way

pub returns-else-not-admitted-clause-replies : goal.returns-else-not-admitted-clause-replies
returns-else-not-admitted-clause-replies c =
    let i = c.self.inside in
    let s = c.args.self.now in
    let e = c.args.e.now in
    let k = c.args.stock in
    let r = c.index_mut-listing.result.now in
    let o = c.in-Ok.ensures in
    let b = c.in-Ok.admitted in
    let went = c.if-not-admitted.false in
    let pair = pair_of c.args.from e.token in
    let view : s ≡ state_of i.stocks.items i.cash.items i.pairs.keys i.counts i.hidden = search rules in
    let new : is_remembered s c.args.from e ≡ false = ap (λ (q : State). has_pair pair q.pairs) view ∙ not-there b (has_pair pair i.pairs.keys) o.new went in
    let v = way_at c.admit.new.listing c.admit.new.cash.items c.admit.new.counts.matches c.admit.new.out in
    let inside : k < length i.stocks.items = in-stocks i.stocks.items i.cash.items i.pairs.keys i.counts i.hidden s k k view refl c.requires.stock in
    let clean = way-clean (taking_of c.args.time c.args.from e k) e (i.counts.orders + 1) (stock_of r) i.cash.items i.counts.matches (record { to = c.args.from; body = Answer (acceptance_of c.args.time e (i.counts.orders + 1)) }) c.args.out.now.replies.list c.args.out.now.feed.list c.args.out.now.fee c.requires.no_replies c.requires.no_feed c.requires.no_fee in
    let way = way-accepted s i.stocks.items i.cash.items i.pairs.keys i.counts i.hidden c.args.time c.args.from e k r v view inside (search rules) (on-true b _ went o.way ∙ clean) in
    ap (λ (w : Way). w.replies) way ∙ ap (λ (t : Bool). (entered_by s c.args.time c.args.from e (if t then Ignored else Accepted k)).replies) (sym new)

pub returns-else-not-admitted-clause-feed : goal.returns-else-not-admitted-clause-feed
returns-else-not-admitted-clause-feed c =
    let i = c.self.inside in
    let s = c.args.self.now in
    let e = c.args.e.now in
    let k = c.args.stock in
    let r = c.index_mut-listing.result.now in
    let o = c.in-Ok.ensures in
    let b = c.in-Ok.admitted in
    let went = c.if-not-admitted.false in
    let pair = pair_of c.args.from e.token in
    let view : s ≡ state_of i.stocks.items i.cash.items i.pairs.keys i.counts i.hidden = search rules in
    let new : is_remembered s c.args.from e ≡ false = ap (λ (q : State). has_pair pair q.pairs) view ∙ not-there b (has_pair pair i.pairs.keys) o.new went in
    let v = way_at c.admit.new.listing c.admit.new.cash.items c.admit.new.counts.matches c.admit.new.out in
    let inside : k < length i.stocks.items = in-stocks i.stocks.items i.cash.items i.pairs.keys i.counts i.hidden s k k view refl c.requires.stock in
    let clean = way-clean (taking_of c.args.time c.args.from e k) e (i.counts.orders + 1) (stock_of r) i.cash.items i.counts.matches (record { to = c.args.from; body = Answer (acceptance_of c.args.time e (i.counts.orders + 1)) }) c.args.out.now.replies.list c.args.out.now.feed.list c.args.out.now.fee c.requires.no_replies c.requires.no_feed c.requires.no_fee in
    let way = way-accepted s i.stocks.items i.cash.items i.pairs.keys i.counts i.hidden c.args.time c.args.from e k r v view inside (search rules) (on-true b _ went o.way ∙ clean) in
    ap (λ (w : Way). w.feed) way ∙ ap (λ (t : Bool). (entered_by s c.args.time c.args.from e (if t then Ignored else Accepted k)).feed) (sym new)

pub returns-else-not-admitted-clause-fee : goal.returns-else-not-admitted-clause-fee
returns-else-not-admitted-clause-fee c =
    let i = c.self.inside in
    let s = c.args.self.now in
    let e = c.args.e.now in
    let k = c.args.stock in
    let r = c.index_mut-listing.result.now in
    let o = c.in-Ok.ensures in
    let b = c.in-Ok.admitted in
    let went = c.if-not-admitted.false in
    let pair = pair_of c.args.from e.token in
    let view : s ≡ state_of i.stocks.items i.cash.items i.pairs.keys i.counts i.hidden = search rules in
    let new : is_remembered s c.args.from e ≡ false = ap (λ (q : State). has_pair pair q.pairs) view ∙ not-there b (has_pair pair i.pairs.keys) o.new went in
    let v = way_at c.admit.new.listing c.admit.new.cash.items c.admit.new.counts.matches c.admit.new.out in
    let inside : k < length i.stocks.items = in-stocks i.stocks.items i.cash.items i.pairs.keys i.counts i.hidden s k k view refl c.requires.stock in
    let clean = way-clean (taking_of c.args.time c.args.from e k) e (i.counts.orders + 1) (stock_of r) i.cash.items i.counts.matches (record { to = c.args.from; body = Answer (acceptance_of c.args.time e (i.counts.orders + 1)) }) c.args.out.now.replies.list c.args.out.now.feed.list c.args.out.now.fee c.requires.no_replies c.requires.no_feed c.requires.no_fee in
    let way = way-accepted s i.stocks.items i.cash.items i.pairs.keys i.counts i.hidden c.args.time c.args.from e k r v view inside (search rules) (on-true b _ went o.way ∙ clean) in
    ap (λ (w : Way). w.fee) way ∙ ap (λ (t : Bool). (entered_by s c.args.time c.args.from e (if t then Ignored else Accepted k)).fee) (sym new)

-- an Enter that is ignored is not told of

pub returns-then-not-admitted-clause-replies : goal.returns-then-not-admitted-clause-replies
returns-then-not-admitted-clause-replies c =
    let i = c.self.inside in
    let s = c.args.self.now in
    let o = c.in-Ok.ensures in
    let b = c.in-Ok.admitted in
    let went = c.if-not-admitted.true in
    let pair = pair_of c.args.from c.args.e.now.token in
    let view : s ≡ state_of i.stocks.items i.cash.items i.pairs.keys i.counts i.hidden = search rules in
    let old : is_remembered s c.args.from c.args.e.now ≡ true = ap (λ (q : State). has_pair pair q.pairs) view ∙ there b (has_pair pair i.pairs.keys) o.new went in
    let kept = on-false b _ went o.ignored in
    kept.4 ∙ c.requires.no_replies ∙ ap (λ (t : Bool). (entered_by s c.args.time c.args.from c.args.e.now (if t then Ignored else Accepted c.args.stock)).replies) (sym old)

pub returns-then-not-admitted-clause-feed : goal.returns-then-not-admitted-clause-feed
returns-then-not-admitted-clause-feed c =
    let i = c.self.inside in
    let s = c.args.self.now in
    let o = c.in-Ok.ensures in
    let b = c.in-Ok.admitted in
    let went = c.if-not-admitted.true in
    let pair = pair_of c.args.from c.args.e.now.token in
    let view : s ≡ state_of i.stocks.items i.cash.items i.pairs.keys i.counts i.hidden = search rules in
    let old : is_remembered s c.args.from c.args.e.now ≡ true = ap (λ (q : State). has_pair pair q.pairs) view ∙ there b (has_pair pair i.pairs.keys) o.new went in
    let kept = on-false b _ went o.ignored in
    kept.5 ∙ c.requires.no_feed ∙ ap (λ (t : Bool). (entered_by s c.args.time c.args.from c.args.e.now (if t then Ignored else Accepted c.args.stock)).feed) (sym old)

pub returns-then-not-admitted-clause-fee : goal.returns-then-not-admitted-clause-fee
returns-then-not-admitted-clause-fee c =
    let i = c.self.inside in
    let s = c.args.self.now in
    let o = c.in-Ok.ensures in
    let b = c.in-Ok.admitted in
    let went = c.if-not-admitted.true in
    let pair = pair_of c.args.from c.args.e.now.token in
    let view : s ≡ state_of i.stocks.items i.cash.items i.pairs.keys i.counts i.hidden = search rules in
    let old : is_remembered s c.args.from c.args.e.now ≡ true = ap (λ (q : State). has_pair pair q.pairs) view ∙ there b (has_pair pair i.pairs.keys) o.new went in
    let kept = on-false b _ went o.ignored in
    kept.6 ∙ c.requires.no_fee ∙ ap (λ (t : Bool). (entered_by s c.args.time c.args.from c.args.e.now (if t then Ignored else Accepted c.args.stock)).fee) (sym old)
