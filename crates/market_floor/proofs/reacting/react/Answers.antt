use Rattle.std.proofs.Common.{◌≡◌, ◌<◌, ◌-◌, ℕ, All, length, refl, arith, ap, ◌∙◌, subst, sym}
use Rattle.std.specs.Prelude.{OnOk, slice_set}
use Rattle.market_types.specs.declared.feed.Feed.{Feed}
use Rattle.exchange_agent.specs.Market.{market}
use Rattle.exchange_agent.specs.State.{State}
use Rattle.market_floor.specs.Party.{PartyState, with_trader}
use Rattle.market_floor.specs.Floor.{FloorState, floor_of, party_at, with_exchange}
use Rattle.market_floor.specs.Reaction.{IsTold, Reaction, decided_by, reaction, trader_reaction}
use Rattle.market_floor.specs.Sound.{IsSoundParty}
use Rattle.market_floor.proofs.Reactions.{not-zero, ok-map, party-here, tells-none, to-exchange, to-trader}
use Rattle.market_floor.proofs.Sounds.{answered-sound, decided-sound}
use Rattle.market_floor.proofs.reacting.react.Goals as goal

pub returns-then-m-eq0-clause-floor : goal.returns-then-m-eq0-clause-floor
returns-then-m-eq0-clause-floor c =
    let f : FloorState = floor_of c.args.exchange.now c.args.parties.now.items c.args.offsets.now in
    let m = c.args.m.now in
    let is = to-exchange c.args.o.now f m c.if-m-eq0.true in
    ok-map c.answer.result (c.answer.new.exchange ≡ (market c.args.exchange.now m.time m.from m.body).state) (with_exchange c.answer.new.exchange f ≡ (reaction c.args.o.now f m).floor)
    (λ e. ap (λ (s : State). with_exchange s f) e ∙ ap (λ (r : Reaction). r.floor) (sym is)) c.answer.ensures.exchange

pub returns-then-m-eq0-clause-told : goal.returns-then-m-eq0-clause-told
returns-then-m-eq0-clause-told c =
    let f : FloorState = floor_of c.args.exchange.now c.args.parties.now.items c.args.offsets.now in
    subst (λ (r : Reaction). OnOk c.answer.result (IsTold r c.answer.new.out)) (sym (to-exchange c.args.o.now f c.args.m.now c.if-m-eq0.true)) (c.answer.ensures.told f)

pub returns-then-m-eq0-clause-sound : goal.returns-then-m-eq0-clause-sound
returns-then-m-eq0-clause-sound c =
    let f : FloorState = floor_of c.args.exchange.now c.args.parties.now.items c.args.offsets.now in
    let a = c.answer.ensures in
    λ n h. answered-sound c.traders_stay_in_range.ensures.later n f c.answer.new.exchange a.stocks a.traders a.ignored_enters a.ignored_cancels (a.books n h.books) h

pub returns-clause-floor : goal.returns-clause-floor
returns-clause-floor c =
    let o = c.args.o.now in
    let s = c.args.exchange.now in
    let ps = c.args.parties.now.items in
    let os = c.args.offsets.now in
    let m = c.args.m.now in
    let f : FloorState = floor_of s ps os in
    let k = c.from.result in
    let p = c.index_mut-party.result.now in
    let within : k - 1 < length ps = omega (arith, c.from.ensures, c.if-m-eq0.false, c.requires.among.to) in
    let here : p ≡ party_at f m.to = party-here f m.to k p c.from.ensures within c.index_mut-party.ensures.value in
    let is = to-trader o f m (not-zero m.to c.if-m-eq0.false) in
    ok-map c.decide.result (c.decide.new.party ≡ with_trader (decided_by o s os p m).trader p) (floor_of s (slice_set ps (k - 1) c.decide.new.party) os ≡ (reaction o f m).floor)
    (λ e. ap (λ (q : PartyState). floor_of s (slice_set ps (k - 1) q) os) e
    ∙ ap (λ (q : PartyState). floor_of s (slice_set ps (k - 1) (with_trader (decided_by o s os q m).trader q)) os) here
    ∙ ap (λ (n : ℕ). floor_of s (slice_set ps (n - 1) (with_trader (decided_by o s os (party_at f m.to) m).trader (party_at f m.to))) os) c.from.ensures
    ∙ ap (λ (r : Reaction). r.floor) (sym is)) c.decide.ensures.party

pub returns-clause-told : goal.returns-clause-told
returns-clause-told c =
    let o = c.args.o.now in
    let s = c.args.exchange.now in
    let ps = c.args.parties.now.items in
    let os = c.args.offsets.now in
    let m = c.args.m.now in
    let f : FloorState = floor_of s ps os in
    let k = c.from.result in
    let p = c.index_mut-party.result.now in
    let within : k - 1 < length ps = omega (arith, c.from.ensures, c.if-m-eq0.false, c.requires.among.to) in
    let here : p ≡ party_at f m.to = party-here f m.to k p c.from.ensures within c.index_mut-party.ensures.value in
    subst (λ (r : Reaction). OnOk c.decide.result (IsTold r c.decide.new.out)) (sym (to-trader o f m (not-zero m.to c.if-m-eq0.false)))
    (subst (λ (q : PartyState). OnOk c.decide.result (IsTold (trader_reaction f m.to q (decided_by o s os q m)) c.decide.new.out)) here (c.decide.ensures.told f))

pub returns-clause-times : goal.returns-clause-times
returns-clause-times c =
    let f : FloorState = floor_of c.args.exchange.now c.args.parties.now.items c.args.offsets.now in
    let m = c.args.m.now in
    let p = c.index_mut-party.result.now in
    let w = trader_reaction f m.to p (decided_by c.args.o.now c.args.exchange.now c.args.offsets.now p m) in
    let h = c.decide.new.out in
    ok-map c.decide.result (IsTold w h) (All (λ (x : Feed). x.time ≡ m.time) h.after.list) (tells-none h w m.time refl) (c.decide.ensures.told f)

pub returns-clause-sound : goal.returns-clause-sound
returns-clause-sound c =
    let s = c.args.exchange.now in
    let ps = c.args.parties.now.items in
    let f : FloorState = floor_of s ps c.args.offsets.now in
    let k = c.from.result in
    let p = c.index_mut-party.result.now in
    let within : k - 1 < length ps = omega (arith, c.from.ensures, c.if-m-eq0.false, c.requires.among.to) in
    λ n h. decided-sound c.traders_stay_in_range.ensures.later n (k - 1) f c.decide.new.party
    (c.decide.ensures.sound (length s.stocks) n (subst (λ (q : PartyState). IsSoundParty (length s.stocks) n q) (sym c.index_mut-party.ensures.value) (h.parties (k - 1) p within))) h
