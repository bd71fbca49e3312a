use Rattle.std.proofs.Common.{◌≡◌, ◌≤◌, ◌+◌, ℤ, List, All, ap, ◌∙◌, subst, sym}
use Rattle.std.specs.Prelude.{OnOk}
use Rattle.std.proofs.lemmas.List.Elements.{All-nil}
use Rattle.market_types.specs.declared.feed.Feed.{Feed}
use Rattle.market_types.specs.Room.{Room}
use Rattle.market_rules.specs.Changes.{dated_by}
use Rattle.market_floor.specs.Floor.{FloorState, floor_of}
use Rattle.market_floor.specs.Reaction.{IsTold, reaction}
use Rattle.market_floor.specs.Ruled.{ruled}
use Rattle.market_floor.specs.Sound.{IsSoundFloor}
use Rattle.market_floor.proofs.Changes.{IsBy}
use Rattle.market_floor.proofs.Reactions.{ok-all, ok-map}
use Rattle.market_floor.proofs.Rulings.{not-due, ruled-none, untold-none, whole}
use Rattle.market_floor.proofs.floor.Floor.deliver.Goals as goal

pub returns-clause-floor : goal.returns-clause-floor
returns-clause-floor c =
    let o = c.args.o.now in
    let m = c.args.m.now in
    let f = c.args.self.now in
    let g = (ruled o c.args.applied m.time f).floor in
    let i = c.self.inside in
    let os = c.as_slice-offsets.result.now in
    let same : os ≡ i.offsets.items = c.as_slice-offsets.ensures.value in
    let s = c.react.new.exchange in
    let ps = c.react.new.parties.items in
    let le : dated_by o.dated m.time ≤ c.args.applied = not-due c.args.applied (dated_by o.dated m.time) c.args.is_due c.requires.due c.if-is_due.false in
    let base : floor_of i.exchange i.parties.items os ≡ g = whole f i.exchange i.parties.items i.offsets.items os same c.self.view_is ∙ ruled-none o c.args.applied m.time f le in
    ok-map c.react.result (floor_of s ps os ≡ (reaction o (floor_of i.exchange i.parties.items os) m).floor) (floor_of s ps i.offsets.items ≡ (reaction o g m).floor)
    (λ e. ap (λ (l : List ℤ). floor_of s ps l) (sym same) ∙ e ∙ ap (λ (q : FloorState). (reaction o q m).floor) base) c.react.ensures.floor

pub returns-clause-before : goal.returns-clause-before
returns-clause-before c =
    let o = c.args.o.now in
    let m = c.args.m.now in
    let le : dated_by o.dated m.time ≤ c.args.applied = not-due c.args.applied (dated_by o.dated m.time) c.args.is_due c.requires.due c.if-is_due.false in
    ok-all c.react.result _ (ap (λ (l : Room Feed). l.list) (c.react.ensures.before ∙ c.clear.ensures) ∙ untold-none o c.args.applied m.time c.args.self.now le)

pub returns-clause-told : goal.returns-clause-told
returns-clause-told c =
    let o = c.args.o.now in
    let m = c.args.m.now in
    let f = c.args.self.now in
    let i = c.self.inside in
    let os = c.as_slice-offsets.result.now in
    let le : dated_by o.dated m.time ≤ c.args.applied = not-due c.args.applied (dated_by o.dated m.time) c.args.is_due c.requires.due c.if-is_due.false in
    let base = whole f i.exchange i.parties.items i.offsets.items os c.as_slice-offsets.ensures.value c.self.view_is ∙ ruled-none o c.args.applied m.time f le in
    subst (λ (q : FloorState). OnOk c.react.result (IsTold (reaction o q m) c.react.new.out)) base c.react.ensures.told

pub returns-clause-times_before : goal.returns-clause-times_before
returns-clause-times_before c =
    ok-all c.react.result _ (subst (λ (l : Room Feed). All (IsBy c.args.m.now.time) l.list) (sym (c.react.ensures.before ∙ c.clear.ensures)) (All-nil (IsBy c.args.m.now.time)))

pub returns-clause-sound : goal.returns-clause-sound
returns-clause-sound c =
    let f = c.args.self.now in
    let i = c.self.inside in
    let os = c.as_slice-offsets.result.now in
    let same : os ≡ i.offsets.items = c.as_slice-offsets.ensures.value in
    let base = whole f i.exchange i.parties.items i.offsets.items os same c.self.view_is in
    λ n h. subst (λ (l : List ℤ). IsSoundFloor (n + 1) (floor_of c.react.new.exchange c.react.new.parties.items l)) same
    (c.react.ensures.sound n (subst (λ (q : FloorState). IsSoundFloor n q) (sym base) h))

-- where dated changes are due

pub returns-then-is_due-clause-floor : goal.returns-then-is_due-clause-floor
returns-then-is_due-clause-floor c = c.deliver_changed.ensures.floor

pub returns-then-is_due-clause-before : goal.returns-then-is_due-clause-before
returns-then-is_due-clause-before c = c.deliver_changed.ensures.before

pub returns-then-is_due-clause-told : goal.returns-then-is_due-clause-told
returns-then-is_due-clause-told c = c.deliver_changed.ensures.told

pub returns-then-is_due-clause-posted : goal.returns-then-is_due-clause-posted
returns-then-is_due-clause-posted c = c.deliver_changed.ensures.posted

pub returns-then-is_due-clause-hour : goal.returns-then-is_due-clause-hour
returns-then-is_due-clause-hour c = c.deliver_changed.ensures.hour

pub returns-then-is_due-clause-times_before : goal.returns-then-is_due-clause-times_before
returns-then-is_due-clause-times_before c = c.deliver_changed.ensures.times_before

pub returns-then-is_due-clause-times_after : goal.returns-then-is_due-clause-times_after
returns-then-is_due-clause-times_after c = c.deliver_changed.ensures.times_after

pub returns-then-is_due-clause-sound : goal.returns-then-is_due-clause-sound
returns-then-is_due-clause-sound c = c.deliver_changed.ensures.sound

pub returns-then-is_due-clause-stocks : goal.returns-then-is_due-clause-stocks
returns-then-is_due-clause-stocks c = c.deliver_changed.ensures.stocks

pub returns-then-is_due-clause-traders : goal.returns-then-is_due-clause-traders
returns-then-is_due-clause-traders c = c.deliver_changed.ensures.traders

pub returns-then-is_due-clause-refused : goal.returns-then-is_due-clause-refused
returns-then-is_due-clause-refused c = c.deliver_changed.ensures.refused
