use Rattle.std.proofs.Common.{◌≡◌, ◌≤◌, ◌++◌, List, length, All, ap, ◌∙◌, subst, sym}
use Rattle.market_types.specs.declared.feed.Feed.{Feed}
use Rattle.market_types.specs.Room.{Room}
use Rattle.market_rules.specs.Changes.{dated_by}
use Rattle.market_floor.specs.Floor.{FloorState}
use Rattle.market_floor.specs.Ruled.{all_changed, due}
use Rattle.market_floor.specs.Sound.{IsSoundFloor}
use Rattle.market_floor.proofs.Changes.{IsBy}
use Rattle.market_floor.proofs.Rulings.{not-due, ruled-made, ruled-none, ruled-sound, ruled-stocks, ruled-times, ruled-told, untold-none}
use Rattle.market_floor.proofs.floor.Floor.rule.Goals as goal

pub returns-then-not-is_due-clause-floor : goal.returns-then-not-is_due-clause-floor
returns-then-not-is_due-clause-floor c =
    let none : dated_by c.args.o.now.dated c.args.time ≤ c.args.applied = not-due c.args.applied (dated_by c.args.o.now.dated c.args.time) c.is_due.result c.is_due.ensures c.if-not-is_due.true in
    ruled-none c.args.o.now c.args.applied c.args.time c.args.self.now none

pub returns-then-not-is_due-clause-feed : goal.returns-then-not-is_due-clause-feed
returns-then-not-is_due-clause-feed c =
    let none : dated_by c.args.o.now.dated c.args.time ≤ c.args.applied = not-due c.args.applied (dated_by c.args.o.now.dated c.args.time) c.is_due.result c.is_due.ensures c.if-not-is_due.true in
    ap (λ (l : Room Feed). l.list) c.new-feed.ensures ∙ untold-none c.args.o.now c.args.applied c.args.time c.args.self.now none

pub returns-clause-floor : goal.returns-clause-floor
returns-clause-floor c =
    let i = c.self.inside in
    ruled-made c.args.o.now c.args.applied c.args.time c.args.self.now i.exchange c.in-Ok.exchange i.parties.items i.offsets.items c.self.view_is c.in-Ok.ensures.state

pub returns-clause-feed : goal.returns-clause-feed
returns-clause-feed c =
    let i = c.self.inside in
    let told : c.changed.new.feed.list ≡ (all_changed (due c.args.o.now c.args.applied c.args.time) i.exchange).feed =
    c.in-Ok.ensures.feed ∙ ap (λ (l : Room Feed). l.list ++ (all_changed (due c.args.o.now c.args.applied c.args.time) i.exchange).feed) c.new-feed.ensures in
    ruled-told c.args.o.now c.args.applied c.args.time c.args.self.now i.exchange _ (ap (λ (f : FloorState). f.exchange) c.self.view_is) told

pub returns-clause-times : goal.returns-clause-times
returns-clause-times c =
    subst (λ (l : List Feed). All (IsBy c.args.time) l) (sym (returns-clause-feed c))
    (ruled-times c.first_changes_are_due.ensures.due c.args.o.now c.args.applied c.args.time c.args.self.now c.requires.fits.opening.dated.rising)

pub returns-clause-sound : goal.returns-clause-sound
returns-clause-sound c =
    λ n h. subst (λ (f : FloorState). IsSoundFloor n f) (sym (returns-clause-floor c))
    (ruled-sound c.books_stay_short.ensures.changes n c.args.o.now c.args.applied c.args.time c.args.self.now h)

pub returns-clause-stocks : goal.returns-clause-stocks
returns-clause-stocks c =
    ap (λ (f : FloorState). length f.exchange.stocks) (returns-clause-floor c)
    ∙ ruled-stocks c.args.o.now c.args.applied c.args.time c.args.self.now
