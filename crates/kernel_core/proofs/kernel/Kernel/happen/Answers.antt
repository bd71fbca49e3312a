use Rattle.std.proofs.Common.{◌≡◌, ◌+◌, ◌<◌, ◌≤◌, ◌^◌, ℕ, List, All, None, true, false, ltb, length, refl, sym, ap, ◌∙◌, subst, arith, slice_set}
use Rattle.std.proofs.lemmas.Bool.Decides.{nat_tests}
use Rattle.std.proofs.lemmas.List.{length-set}
use Rattle.std.proofs.lemmas.List.Elements.{All-nil}
use Rattle.market_types.specs.declared.feed.Feed.{Feed}
use Rattle.market_types.specs.declared.message.Message.{Message}
use Rattle.market_types.specs.Timely.{AreTimely, IsTimely}
use Rattle.market_types.specs.Told.{event}
use Rattle.market_floor.specs.declared.posting.Posting.{Posting}
use Rattle.market_floor.specs.Floor.{FloorState}
use Rattle.market_floor.specs.Postings.{IsAddressed}
use Rattle.market_floor.specs.Reaction.{ArePosted}
use Rattle.kernel_core.specs.Post.{Post, put_back, taken}
use Rattle.kernel_core.specs.Seen.{first_waiting}
use Rattle.kernel_core.specs.Send.{all_sent}
use Rattle.kernel_core.specs.Sound.{IsSound}
use Rattle.kernel_core.specs.SoundMail.{IsSoundMail}
use Rattle.kernel_core.specs.State.{State}
use Rattle.kernel_core.specs.Step.{Fits, Happened, end_of, event_back, event_delivered, event_of}
use Rattle.kernel_core.specs.View.{state_of}
use Rattle.kernel_core.proofs.Making.{at-some, back-entry, back-made, back-same, delivered-entry, delivered-made, delivered-same, taken-same}
use Rattle.kernel_core.proofs.Runs.{going-whole}
use Rattle.kernel_core.proofs.Sound.{IsOfSize, fits-after, floor-fits, next-is, next-within, sound-after}
use Rattle.kernel_core.proofs.kernel.Kernel.happen.Goals as goal

pub index-own-requires : goal.index-own-requires
index-own-requires g c =
    let k = c.self.inside in
    let within = next-within c.mail_stays_sound.ensures.next (state_of k) c.in-Ok.m.now c.self.invariant c.in-Ok.ensures.least in
    omega (arith, within, c.from-to.ensures, k.own.ok.0)

-- the message goes back
pub invariant_of-self-then-time-own : goal.invariant_of-self-then-time-own
invariant_of-self-then-time-own g c =
    let k = c.self.inside in
    let s = state_of k in
    let o = c.args.o.now in
    let m = c.in-Ok.m.now in
    let busy = c.index-own.result.now in
    let traders = length k.floor.parties in
    let stocks = length k.floor.exchange.stocks in
    let fits = subst (λ (q : State). Fits o q) (sym c.self.view_is) c.requires.fits in
    let later : m.time ≤ busy = omega (arith, c.if-time-own.true) in
    let next = c.in-Ok.ensures.least in
    let n = next-is o s m fits next c.in-Ok.ensures.going in
    let size : IsOfSize s k.own.items c.meet.new.floor = record { own = refl; stocks = c.meet.ensures.stocks; traders = c.meet.ensures.traders } in
    let post = at-some (λ (x : Message). c.delay_least.new.self ≡ put_back k.mail x busy) _ m (sym c.in-Ok.ensures.least) c.delay_least.ensures.back in
    let mail = c.mail_stays_sound.ensures.put_back traders stocks k.time k.events busy k.mail m next later c.self.invariant.mail in
    sound-after s m.time (k.events + 1) c.applied_by-self-inside.result c.delay_least.new.self k.own.items c.meet.new.floor k.groups size
    (subst (λ (p : Post). IsSoundMail traders stocks m.time (k.events + 1) p) (sym post) mail) (c.meet.ensures.sound k.events c.self.invariant.floor) n.early (omega (arith, n.few)) c.self.invariant

pub returns-then-time-own-clause-state : goal.returns-then-time-own-clause-state
returns-then-time-own-clause-state g c =
    let s = c.args.self.now in
    let k = c.self.inside in
    let o = c.args.o.now in
    let m = c.in-Ok.m.now in
    let busy = c.index-own.result.now in
    let later : m.time < busy = omega (arith, c.if-time-own.true) in
    let same : event_back o (state_of k) m busy ≡ event_of o s (first_waiting s) = back-same c.mail_stays_sound.ensures.next o (state_of k) s m c.from-to.result busy c.self.invariant c.self.view_is c.in-Ok.ensures.least c.from-to.ensures c.index-own.ensures later in
    let post = at-some (λ (x : Message). c.delay_least.new.self ≡ put_back k.mail x busy) _ m (sym c.in-Ok.ensures.least) c.delay_least.ensures.back in
    back-made o (state_of k) m busy c.applied_by-self-inside.result c.delay_least.new.self c.meet.new.floor c.applied_by-self-inside.ensures.value post (c.in-Ok-meet.ensures.floor_back later)
    ∙ ap (λ (h : Happened). h.state) same

pub returns-then-time-own-clause-taken : goal.returns-then-time-own-clause-taken
returns-then-time-own-clause-taken g c kept =
    let s = c.args.self.now in
    let k = c.self.inside in
    let o = c.args.o.now in
    let m = c.in-Ok.m.now in
    let busy = c.index-own.result.now in
    let later : m.time < busy = omega (arith, c.if-time-own.true) in
    let same : event_back o (state_of k) m busy ≡ event_of o s (first_waiting s) = back-same c.mail_stays_sound.ensures.next o (state_of k) s m c.from-to.result busy c.self.invariant c.self.view_is c.in-Ok.ensures.least c.from-to.ensures c.index-own.ensures later in
    let h = c.meet.new.out in
    let back : ltb m.time busy ≡ true = grind (arith, nat_tests, later) in
    let entry = back-entry o (state_of k) m busy _ _ _ _ _ _ (c.seen_of-seen.ensures h.before.list h.after.list) back (c.in-Ok-meet.ensures.until_back later)
    (c.in-Ok-meet.ensures.fee_back later) c.in-Ok-meet.ensures.before (c.in-Ok-meet.ensures.feed_back later) in
    taken-same g.K.Keeper.with (g.K.Keeper.told c.args.keeper.now) _ _ _ (event_back o (state_of k) m busy) (event_of o s (first_waiting s)) (c.tell-kept.ensures.taken kept) entry c.in-Ok-room.ensures.same same

pub returns-then-time-own-clause-timely : goal.returns-then-time-own-clause-timely
returns-then-time-own-clause-timely g c =
    let s = c.args.self.now in
    let k = c.self.inside in
    let o = c.args.o.now in
    let m = c.in-Ok.m.now in
    let busy = c.index-own.result.now in
    let later : m.time < busy = omega (arith, c.if-time-own.true) in
    let same : event_back o (state_of k) m busy ≡ event_of o s (first_waiting s) = back-same c.mail_stays_sound.ensures.next o (state_of k) s m c.from-to.result busy c.self.invariant c.self.view_is c.in-Ok.ensures.least c.from-to.ensures c.index-own.ensures later in
    let before = subst (λ (fs : List Feed). AreTimely fs) c.in-Ok-meet.ensures.before c.in-Ok-meet.ensures.timely_before in
    let here : IsTimely (event (event_back o (state_of k) m busy).entry) = (before, All-nil (λ (f : Feed). f.time < 2 ^ 48)) in
    subst (λ (h : Happened). IsTimely (event h.entry)) same here

pub returns-then-time-own-clause-fitting : goal.returns-then-time-own-clause-fitting
returns-then-time-own-clause-fitting g c =
    let k = c.self.inside in
    let s = state_of k in
    let o = c.args.o.now in
    let m = c.in-Ok.m.now in
    let fits = subst (λ (q : State). Fits o q) (sym c.self.view_is) c.requires.fits in
    let next = c.in-Ok.ensures.least in
    let n = next-is o s m fits next c.in-Ok.ensures.going in
    let size : IsOfSize s k.own.items c.meet.new.floor = record { own = refl; stocks = c.meet.ensures.stocks; traders = c.meet.ensures.traders } in
    let later = c.mail_stays_sound.ensures.soonest (length k.floor.parties) (length k.floor.exchange.stocks) k.time k.events k.mail m next c.self.invariant.mail in
    let q : State = record {
      time = m.time;
      events = k.events + 1;
      applied = c.applied_by-self-inside.result;
      post = c.delay_least.new.self;
      own = k.own.items;
      floor = c.meet.new.floor;
      groups = k.groups;
    } in
    fits-after o s q fits size refl (c.applied_by-self-inside.ensures.within fits.dated) later (omega (arith, n.below))

-- the message is delivered
pub index_mut-requires : goal.index_mut-requires
index_mut-requires g c =
    let k = c.self.inside in
    let within = next-within c.mail_stays_sound.ensures.next (state_of k) c.in-Ok.m.now c.self.invariant c.in-Ok.ensures.least in
    omega (arith, within, c.from-to.ensures, k.own.ok.0)

pub invariant_of-self-2 : goal.invariant_of-self-2
invariant_of-self-2 g c =
    let k = c.self.inside in
    let s = state_of k in
    let o = c.args.o.now in
    let m = c.in-Ok.m.now in
    let xs = c.tell-kept.new.out.postings in
    let until = c.in-Ok-meet.until in
    let free : c.index-own.result.now ≤ m.time = omega (arith, c.if-time-own.false) in
    let traders = length k.floor.parties in
    let stocks = length k.floor.exchange.stocks in
    let fits = subst (λ (q : State). Fits o q) (sym c.self.view_is) c.requires.fits in
    let next = c.in-Ok.ensures.least in
    let n = next-is o s m fits next c.in-Ok.ensures.going in
    let times = slice_set k.own.items c.from-to.result until in
    let size : IsOfSize s times c.meet.new.floor = record { own = length-set k.own.items c.from-to.result until; stocks = c.meet.ensures.stocks; traders = c.meet.ensures.traders } in
    let posted : ArePosted traders stocks m xs = subst (λ (ys : List Posting). ArePosted traders stocks m ys) (sym c.tell-kept.ensures.postings) (c.in-Ok-meet.ensures.posted free) in
    let later : m.time ≤ until = omega (arith, c.in-Ok-meet.ensures.until free) in
    let gone = at-some (λ (x : Message). c.drop_least.new.self ≡ taken k.mail x) _ m (sym c.in-Ok.ensures.least) c.drop_least.ensures.left in
    let post : c.send_all.new.mail ≡ all_sent o k.groups m.to until (taken k.mail m) xs =
    c.send_all.ensures.mail ∙ ap (λ (p : Post). all_sent o k.groups m.to until p xs) gone in
    let left = c.mail_stays_sound.ensures.taken traders stocks k.time k.events k.mail m next c.self.invariant.mail in
    let mail = c.mail_stays_sound.ensures.sent o k.groups traders stocks m.time (k.events + 1) m.to until (taken k.mail m) xs later posted.addressed posted.ahead left in
    sound-after s m.time (k.events + 1) c.applied_by-self-inside.result c.send_all.new.mail times c.meet.new.floor k.groups size
    (subst (λ (p : Post). IsSoundMail traders stocks m.time (k.events + 1) p) (sym post) mail) (c.meet.ensures.sound k.events c.self.invariant.floor) n.early (omega (arith, n.few)) c.self.invariant

pub returns-clause-state : goal.returns-clause-state
returns-clause-state g c =
    let s = c.args.self.now in
    let k = c.self.inside in
    let o = c.args.o.now in
    let m = c.in-Ok.m.now in
    let busy = c.index-own.result.now in
    let free : busy ≤ m.time = omega (arith, c.if-time-own.false) in
    let same : event_delivered o (state_of k) m ≡ event_of o s (first_waiting s) = delivered-same c.mail_stays_sound.ensures.next o (state_of k) s m c.from-to.result busy c.self.invariant c.self.view_is c.in-Ok.ensures.least c.from-to.ensures c.index-own.ensures free in
    let until = c.in-Ok-meet.until in
    let told = c.in-Ok-meet.ensures.told free in
    let gone = at-some (λ (x : Message). c.drop_least.new.self ≡ taken k.mail x) _ m (sym c.in-Ok.ensures.least) c.drop_least.ensures.left in
    let post = c.send_all.ensures.mail ∙ ap (λ (p : Post). all_sent o k.groups m.to until p c.tell-kept.new.out.postings) gone
    ∙ ap (all_sent o k.groups m.to until (taken k.mail m)) (c.tell-kept.ensures.postings ∙ told.postings) in
    let times = ap (λ i. slice_set k.own.items i until) c.from-to.ensures in
    delivered-made o (state_of k) m until c.applied_by-self-inside.result c.send_all.new.mail (slice_set k.own.items c.from-to.result until) c.meet.new.floor
    (c.in-Ok-meet.ensures.until free) c.applied_by-self-inside.ensures.value post times (c.in-Ok-meet.ensures.floor free)
    ∙ ap (λ (h : Happened). h.state) same

pub returns-clause-taken : goal.returns-clause-taken
returns-clause-taken g c kept =
    let s = c.args.self.now in
    let k = c.self.inside in
    let o = c.args.o.now in
    let m = c.in-Ok.m.now in
    let busy = c.index-own.result.now in
    let free : busy ≤ m.time = omega (arith, c.if-time-own.false) in
    let same : event_delivered o (state_of k) m ≡ event_of o s (first_waiting s) = delivered-same c.mail_stays_sound.ensures.next o (state_of k) s m c.from-to.result busy c.self.invariant c.self.view_is c.in-Ok.ensures.least c.from-to.ensures c.index-own.ensures free in
    let h = c.meet.new.out in
    let told = c.in-Ok-meet.ensures.told free in
    let back : ltb m.time busy ≡ false = grind (arith, nat_tests, free) in
    let entry = delivered-entry o (state_of k) m _ _ _ _ _ _ (c.seen_of-seen.ensures h.before.list h.after.list) back (c.in-Ok-meet.ensures.until free) told.fee c.in-Ok-meet.ensures.before told.feed in
    taken-same g.K.Keeper.with (g.K.Keeper.told c.args.keeper.now) _ _ _ (event_delivered o (state_of k) m) (event_of o s (first_waiting s)) (c.tell-kept.ensures.taken kept) entry c.in-Ok-room.ensures.same same

pub returns-clause-timely : goal.returns-clause-timely
returns-clause-timely g c =
    let s = c.args.self.now in
    let k = c.self.inside in
    let o = c.args.o.now in
    let m = c.in-Ok.m.now in
    let busy = c.index-own.result.now in
    let free : busy ≤ m.time = omega (arith, c.if-time-own.false) in
    let same : event_delivered o (state_of k) m ≡ event_of o s (first_waiting s) = delivered-same c.mail_stays_sound.ensures.next o (state_of k) s m c.from-to.result busy c.self.invariant c.self.view_is c.in-Ok.ensures.least c.from-to.ensures c.index-own.ensures free in
    let told = c.in-Ok-meet.ensures.told free in
    let before = subst (λ (fs : List Feed). AreTimely fs) c.in-Ok-meet.ensures.before c.in-Ok-meet.ensures.timely_before in
    let after = subst (λ (fs : List Feed). AreTimely fs) told.feed c.in-Ok-meet.ensures.timely_after in
    let here : IsTimely (event (event_delivered o (state_of k) m).entry) = (before, after) in
    subst (λ (h : Happened). IsTimely (event h.entry)) same here

pub returns-clause-fitting : goal.returns-clause-fitting
returns-clause-fitting g c =
    let k = c.self.inside in
    let s = state_of k in
    let o = c.args.o.now in
    let m = c.in-Ok.m.now in
    let until = c.in-Ok-meet.until in
    let fits = subst (λ (q : State). Fits o q) (sym c.self.view_is) c.requires.fits in
    let next = c.in-Ok.ensures.least in
    let n = next-is o s m fits next c.in-Ok.ensures.going in
    let times = slice_set k.own.items c.from-to.result until in
    let size : IsOfSize s times c.meet.new.floor = record { own = length-set k.own.items c.from-to.result until; stocks = c.meet.ensures.stocks; traders = c.meet.ensures.traders } in
    let later = c.mail_stays_sound.ensures.soonest (length k.floor.parties) (length k.floor.exchange.stocks) k.time k.events k.mail m next c.self.invariant.mail in
    let q : State = record {
      time = m.time;
      events = k.events + 1;
      applied = c.applied_by-self-inside.result;
      post = c.send_all.new.mail;
      own = times;
      floor = c.meet.new.floor;
      groups = k.groups;
    } in
    fits-after o s q fits size refl (c.applied_by-self-inside.ensures.within fits.dated) later (omega (arith, n.below))

-- after want of memory the floor is as it was

pub invariant_of-self : goal.invariant_of-self
invariant_of-self g c = subst (λ (f : FloorState). IsSound (record (state_of c.self.inside) { floor = f })) (sym c.in_default-meet.ensures.refused) c.self.invariant

pub returns-in_default-meet-clause-fitting : goal.returns-in_default-meet-clause-fitting
returns-in_default-meet-clause-fitting g c =
    let same = ap (λ (f : FloorState). record (state_of c.self.inside) { floor = f }) c.in_default-meet.ensures.refused ∙ c.self.view_is in
    subst (λ (q : State). Fits c.args.o.now q) (sym same) c.requires.fits

pub returns-in_default-meet-clause-refused : goal.returns-in_default-meet-clause-refused
returns-in_default-meet-clause-refused g c = ap (λ (f : FloorState). record (state_of c.self.inside) { floor = f }) c.in_default-meet.ensures.refused ∙ c.self.view_is

-- what the calls ask

pub overflow_add-number : goal.overflow_add-number
overflow_add-number g c =
    let n = next-is c.args.o.now (state_of c.self.inside) c.in-Ok.m.now (subst (λ (q : State). Fits c.args.o.now q) (sym c.self.view_is) c.requires.fits) c.in-Ok.ensures.least c.in-Ok.ensures.going in
    omega (arith, n.few)

pub meet-requires-clause-fits : goal.meet-requires-clause-fits
meet-requires-clause-fits g c =
    let fits = subst (λ (q : State). Fits c.args.o.now q) (sym c.self.view_is) c.requires.fits in
    floor-fits c.args.o.now (state_of c.self.inside) fits

pub meet-requires-clause-sound : goal.meet-requires-clause-sound
meet-requires-clause-sound g c =
    let k = c.self.inside in
    c.floors_stay_sound.ensures k.events 1000000 k.floor c.self.invariant.events c.self.invariant.floor

pub meet-requires-clause-among : goal.meet-requires-clause-among
meet-requires-clause-among g c =
    let k = c.self.inside in
    c.mail_stays_sound.ensures.next (length k.floor.parties) (length k.floor.exchange.stocks) k.time k.events k.mail c.in-Ok.m.now c.in-Ok.ensures.least c.self.invariant.mail

pub meet-requires-clause-start : goal.meet-requires-clause-start
meet-requires-clause-start g c =
    let k = c.self.inside in
    let fits = subst (λ (q : State). Fits c.args.o.now q) (sym c.self.view_is) c.requires.fits in
    let later = c.mail_stays_sound.ensures.soonest (length k.floor.parties) (length k.floor.exchange.stocks) k.time k.events k.mail c.in-Ok.m.now c.in-Ok.ensures.least c.self.invariant.mail in
    omega (arith, later, fits.start)

pub meet-requires-clause-close : goal.meet-requires-clause-close
meet-requires-clause-close g c =
    let n = next-is c.args.o.now (state_of c.self.inside) c.in-Ok.m.now (subst (λ (q : State). Fits c.args.o.now q) (sym c.self.view_is) c.requires.fits) c.in-Ok.ensures.least c.in-Ok.ensures.going in
    n.close

pub meet-requires-clause-early : goal.meet-requires-clause-early
meet-requires-clause-early g c =
    let n = next-is c.args.o.now (state_of c.self.inside) c.in-Ok.m.now (subst (λ (q : State). Fits c.args.o.now q) (sym c.self.view_is) c.requires.fits) c.in-Ok.ensures.least c.in-Ok.ensures.going in
    n.early

pub send_all-requires-clause-opening : goal.send_all-requires-clause-opening
send_all-requires-clause-opening g c = c.requires.fits.opening

pub send_all-requires-clause-groups : goal.send_all-requires-clause-groups
send_all-requires-clause-groups g c =
    let fits = subst (λ (q : State). Fits c.args.o.now q) (sym c.self.view_is) c.requires.fits in
    fits.groups

pub send_all-requires-clause-addressed : goal.send_all-requires-clause-addressed
send_all-requires-clause-addressed g c =
    let k = c.self.inside in
    let o = c.args.o.now in
    let m = c.in-Ok.m.now in
    let to = m.to in
    let xs = c.tell-kept.new.out.postings in
    let free : c.index-own.result.now ≤ m.time = omega (arith, c.if-time-own.false) in
    let fits = subst (λ (q : State). Fits o q) (sym c.self.view_is) c.requires.fits in
    let posted : ArePosted (length k.floor.parties) (length k.floor.exchange.stocks) m xs = subst (λ (ys : List Posting). ArePosted (length k.floor.parties) (length k.floor.exchange.stocks) m ys) (sym c.tell-kept.ensures.postings) (c.in-Ok-meet.ensures.posted free) in
    let here = subst (λ (n : ℕ). All (λ (x : Posting). IsAddressed (length k.floor.parties) n to x) xs) (sym fits.stocks) posted.addressed in
    subst (λ (n : ℕ). All (λ (x : Posting). IsAddressed n (length o.stocks) to x) xs) (sym fits.traders) here

pub send_all-requires-clause-leaves : goal.send_all-requires-clause-leaves
send_all-requires-clause-leaves g c =
    let n = next-is c.args.o.now (state_of c.self.inside) c.in-Ok.m.now (subst (λ (q : State). Fits c.args.o.now q) (sym c.self.view_is) c.requires.fits) c.in-Ok.ensures.least c.in-Ok.ensures.going in
    let free : c.index-own.result.now ≤ c.in-Ok.m.now.time = omega (arith, c.if-time-own.false) in
    omega (arith, n.early, c.in-Ok-meet.ensures.hour free)

pub send_all-requires-clause-numbers : goal.send_all-requires-clause-numbers
send_all-requires-clause-numbers g c =
    let gone = at-some (λ (x : Message). c.drop_least.new.self ≡ taken c.self.inside.mail x) _ c.in-Ok.m.now (sym c.in-Ok.ensures.least) c.drop_least.ensures.left in
    let same = ap (λ (p : Post). p.next_seq) gone in
    let mail = c.self.invariant.mail in
    let free : c.index-own.result.now ≤ c.in-Ok.m.now.time = omega (arith, c.if-time-own.false) in
    omega (arith, same, mail.numbers, mail.orderly.few, c.self.invariant.events, ap (λ (xs : List Posting). length xs) c.tell-kept.ensures.postings, (c.in-Ok-meet.ensures.posted free).few)

pub send_all-requires-clause-drops : goal.send_all-requires-clause-drops
send_all-requires-clause-drops g c =
    let gone = at-some (λ (x : Message). c.drop_least.new.self ≡ taken c.self.inside.mail x) _ c.in-Ok.m.now (sym c.in-Ok.ensures.least) c.drop_least.ensures.left in
    let whole = going-whole c.args.o.now (state_of c.self.inside) c.in-Ok.ensures.going in
    let same = ap (λ (p : Post). p.dropped) gone in
    let free : c.index-own.result.now ≤ c.in-Ok.m.now.time = omega (arith, c.if-time-own.false) in
    omega (arith, same, whole, ap (λ (xs : List Posting). length xs) c.tell-kept.ensures.postings, (c.in-Ok-meet.ensures.posted free).few)

-- no message was dropped before, and no more are than the postings

pub returns-then-time-own-clause-drops : goal.returns-then-time-own-clause-drops
returns-then-time-own-clause-drops g c =
    let back = at-some (λ (x : Message). c.delay_least.new.self ≡ put_back c.self.inside.mail x c.index-own.result.now) _ c.in-Ok.m.now (sym c.in-Ok.ensures.least) c.delay_least.ensures.back in
    let whole = going-whole c.args.o.now (state_of c.self.inside) c.in-Ok.ensures.going in
    let same = ap (λ (p : Post). p.dropped) back in
    omega (arith, same, whole)

pub returns-clause-drops : goal.returns-clause-drops
returns-clause-drops g c =
    let gone = at-some (λ (x : Message). c.drop_least.new.self ≡ taken c.self.inside.mail x) _ c.in-Ok.m.now (sym c.in-Ok.ensures.least) c.drop_least.ensures.left in
    let whole = going-whole c.args.o.now (state_of c.self.inside) c.in-Ok.ensures.going in
    let same = ap (λ (p : Post). p.dropped) gone in
    let free : c.index-own.result.now ≤ c.in-Ok.m.now.time = omega (arith, c.if-time-own.false) in
    omega (arith, c.send_all.ensures.drops, same, whole, ap (λ (xs : List Posting). length xs) c.tell-kept.ensures.postings, (c.in-Ok-meet.ensures.posted free).few)
