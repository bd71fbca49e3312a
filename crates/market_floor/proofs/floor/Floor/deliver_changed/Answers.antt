use Rattle.std.proofs.Common.{◌≡◌, ◌+◌, ◌++◌, ℕ, ℤ, List, length, All, arith, ap, ◌∙◌, subst, sym}
use Rattle.market_types.specs.declared.feed.Feed.{Feed}
use Rattle.market_types.specs.Room.{Room}
use Rattle.exchange_agent.specs.Market.{IsAskable}
use Rattle.market_floor.specs.Party.{PartyState}
use Rattle.market_floor.specs.Floor.{FloorState, floor_of}
use Rattle.market_floor.specs.Reaction.{ArePosted, IsTold, reaction}
use Rattle.market_floor.specs.Ruled.{all_changed, due}
use Rattle.market_floor.specs.Sound.{FitsFloor, IsSoundFloor}
use Rattle.market_floor.proofs.Changes.{IsBy}
use Rattle.market_floor.proofs.Rulings.{ruled-fits, ruled-made, ruled-sound, ruled-stocks, ruled-times, ruled-told, whole}
use Rattle.market_floor.proofs.Sounds.{floor-later}
use Rattle.market_floor.proofs.floor.Floor.deliver_changed.Goals as goal

pub returns-in_default-clause-sound : goal.returns-in_default-clause-sound
returns-in_default-clause-sound c = λ n h. floor-later c.traders_stay_in_range.ensures.later n (n + 1) c.args.self.now (omega arith) h

pub react-requires-clause-fits : goal.react-requires-clause-fits
react-requires-clause-fits c =
    let o = c.args.o.now in
    let t = c.args.m.now.time in
    let f = c.args.self.now in
    let i = c.self.inside in
    let made = ruled-made o c.args.applied t f i.exchange c.in-Ok.exchange i.parties.items i.offsets.items c.self.view_is c.in-Ok.ensures.state in
    let base = whole _ c.in-Ok.exchange i.parties.items i.offsets.items c.as_slice-offsets.result.now c.as_slice-offsets.ensures.value made in
    subst (λ (q : FloorState). FitsFloor o q) (sym base) (ruled-fits o c.args.applied t f c.requires.fits)

pub react-requires-clause-sound : goal.react-requires-clause-sound
react-requires-clause-sound c =
    let o = c.args.o.now in
    let t = c.args.m.now.time in
    let f = c.args.self.now in
    let i = c.self.inside in
    let made = ruled-made o c.args.applied t f i.exchange c.in-Ok.exchange i.parties.items i.offsets.items c.self.view_is c.in-Ok.ensures.state in
    let base = whole _ c.in-Ok.exchange i.parties.items i.offsets.items c.as_slice-offsets.result.now c.as_slice-offsets.ensures.value made in
    subst (λ (q : FloorState). IsSoundFloor 1000000 q) (sym base) (ruled-sound c.books_stay_short.ensures.changes 1000000 o c.args.applied t f c.requires.sound)

pub react-requires-clause-among : goal.react-requires-clause-among
react-requires-clause-among c =
    let o = c.args.o.now in
    let m = c.args.m.now in
    let f = c.args.self.now in
    let i = c.self.inside in
    let made = ruled-made o c.args.applied m.time f i.exchange c.in-Ok.exchange i.parties.items i.offsets.items c.self.view_is c.in-Ok.ensures.state in
    let stocks : length c.in-Ok.exchange.stocks ≡ length f.exchange.stocks = ap (λ (q : FloorState). length q.exchange.stocks) made ∙ ruled-stocks o c.args.applied m.time f in
    let traders : length i.parties.items ≡ length f.parties = ap (λ (q : FloorState). length q.parties) c.self.view_is in
    let h = c.requires.among in
    record {
      from = omega (arith, h.from, traders);
      to = omega (arith, h.to, traders);
      known = h.known;
      asks = subst (λ (k : ℕ). IsAskable k m.body) (sym stocks) h.asks;
    }

pub returns-in_default-react-clause-sound : goal.returns-in_default-react-clause-sound
returns-in_default-react-clause-sound c =
    let f = c.args.self.now in
    let i = c.self.inside in
    let same : floor_of i.exchange c.react.new.parties.items i.offsets.items ≡ f = ap (λ (ps : List PartyState). floor_of i.exchange ps i.offsets.items) c.in_default-react.ensures.parties_refused ∙ c.self.view_is in
    λ n h. subst (λ (q : FloorState). IsSoundFloor (n + 1) q) (sym same) (floor-later c.traders_stay_in_range.ensures.later n (n + 1) f (omega arith) h)

pub returns-clause-floor : goal.returns-clause-floor
returns-clause-floor c =
    let o = c.args.o.now in
    let m = c.args.m.now in
    let f = c.args.self.now in
    let i = c.self.inside in
    let same : c.as_slice-offsets.result.now ≡ i.offsets.items = c.as_slice-offsets.ensures.value in
    let made = ruled-made o c.args.applied m.time f i.exchange c.in-Ok.exchange i.parties.items i.offsets.items c.self.view_is c.in-Ok.ensures.state in
    let base = whole _ c.in-Ok.exchange i.parties.items i.offsets.items c.as_slice-offsets.result.now same made in
    ap (λ (l : List ℤ). floor_of c.react.new.exchange c.react.new.parties.items l) (sym same)
    ∙ c.in-Ok-react.ensures.floor
    ∙ ap (λ (q : FloorState). (reaction o q m).floor) base

pub returns-clause-before : goal.returns-clause-before
returns-clause-before c =
    let o = c.args.o.now in
    let t = c.args.m.now.time in
    let i = c.self.inside in
    let told : c.changed.new.feed.list ≡ (all_changed (due o c.args.applied t) i.exchange).feed =
    c.in-Ok.ensures.feed ∙ ap (λ (l : List Feed). l ++ (all_changed (due o c.args.applied t) i.exchange).feed) c.requires.untold in
    ap (λ (l : Room Feed). l.list) c.react.ensures.before
    ∙ ruled-told o c.args.applied t c.args.self.now i.exchange _ (ap (λ (f : FloorState). f.exchange) c.self.view_is) told

pub returns-clause-told : goal.returns-clause-told
returns-clause-told c =
    let o = c.args.o.now in
    let m = c.args.m.now in
    let f = c.args.self.now in
    let i = c.self.inside in
    let made = ruled-made o c.args.applied m.time f i.exchange c.in-Ok.exchange i.parties.items i.offsets.items c.self.view_is c.in-Ok.ensures.state in
    let base = whole _ c.in-Ok.exchange i.parties.items i.offsets.items c.as_slice-offsets.result.now c.as_slice-offsets.ensures.value made in
    subst (λ (q : FloorState). IsTold (reaction o q m) c.react.new.out) base c.in-Ok-react.ensures.told

pub returns-clause-posted : goal.returns-clause-posted
returns-clause-posted c =
    let o = c.args.o.now in
    let m = c.args.m.now in
    let f = c.args.self.now in
    let i = c.self.inside in
    let made = ruled-made o c.args.applied m.time f i.exchange c.in-Ok.exchange i.parties.items i.offsets.items c.self.view_is c.in-Ok.ensures.state in
    let stocks : length c.in-Ok.exchange.stocks ≡ length f.exchange.stocks = ap (λ (q : FloorState). length q.exchange.stocks) made ∙ ruled-stocks o c.args.applied m.time f in
    let traders : length i.parties.items ≡ length f.parties = ap (λ (q : FloorState). length q.parties) c.self.view_is in
    subst (λ (k : ℕ). ArePosted k (length f.exchange.stocks) m c.react.new.out.postings) traders
    (subst (λ (k : ℕ). ArePosted (length i.parties.items) k m c.react.new.out.postings) stocks c.in-Ok-react.ensures.posted)

pub returns-clause-times_before : goal.returns-clause-times_before
returns-clause-times_before c =
    let t = c.args.m.now.time in
    subst (λ (l : List Feed). All (IsBy t) l) (sym (returns-clause-before c))
    (ruled-times c.first_changes_are_due.ensures.due c.args.o.now c.args.applied t c.args.self.now c.requires.fits.opening.dated.rising)

pub returns-clause-sound : goal.returns-clause-sound
returns-clause-sound c =
    let o = c.args.o.now in
    let t = c.args.m.now.time in
    let f = c.args.self.now in
    let i = c.self.inside in
    let same : c.as_slice-offsets.result.now ≡ i.offsets.items = c.as_slice-offsets.ensures.value in
    let made = ruled-made o c.args.applied t f i.exchange c.in-Ok.exchange i.parties.items i.offsets.items c.self.view_is c.in-Ok.ensures.state in
    let base = whole _ c.in-Ok.exchange i.parties.items i.offsets.items c.as_slice-offsets.result.now same made in
    λ n h. subst (λ (l : List ℤ). IsSoundFloor (n + 1) (floor_of c.react.new.exchange c.react.new.parties.items l)) same
    (c.react.ensures.sound n (subst (λ (q : FloorState). IsSoundFloor n q) (sym base) (ruled-sound c.books_stay_short.ensures.changes n o c.args.applied t f h)))

pub returns-clause-stocks : goal.returns-clause-stocks
returns-clause-stocks c =
    let o = c.args.o.now in
    let t = c.args.m.now.time in
    let f = c.args.self.now in
    let i = c.self.inside in
    let made = ruled-made o c.args.applied t f i.exchange c.in-Ok.exchange i.parties.items i.offsets.items c.self.view_is c.in-Ok.ensures.state in
    c.react.ensures.stocks ∙ ap (λ (q : FloorState). length q.exchange.stocks) made ∙ ruled-stocks o c.args.applied t f
