use Rattle.std.proofs.Common.{◌≡◌, Bool, true, ap, ◌∙◌}
use Rattle.kernel_core.specs.Seen.{first_waiting}
use Rattle.kernel_core.specs.State.{State}
use Rattle.kernel_core.specs.Step.{event_of}
use Rattle.kernel_core.proofs.Kept.{event-offsets, event-settings, settings_of}
use Rattle.kernel_core.proofs.Possible.{edit-kept}
use Rattle.kernel_core.proofs.Making.{IsOne, if-ok, on-ok, one-kept, one-made, one-state, one-told}
use Rattle.kernel_core.proofs.kernel.Kernel.step_into.Goals as goal

-- the event
pub returns-then-kept-clause-kept : goal.returns-then-kept-clause-kept
returns-then-kept-clause-kept g c =
    let o = c.args.o.now in
    let s = c.args.self.now in
    let one : IsOne o s c.happen.new.self = one-made o s c.happen.new.self c.in-Ok.happened c.in-Ok-happened.kept c.in-Ok-happened.is c.in-Ok.ensures.going c.in-Ok.ensures.next c.in-Ok.ensures.state in
    let take = g.K.Keeper.with in
    let taken = if-ok (λ (kept : Bool). kept ≡ true → g.K.Keeper.told c.happen.new.keeper ≡ take (g.K.Keeper.told c.args.keeper.now) (event_of o s (first_waiting s)).entry) c.in-Ok.happened c.in-Ok-happened.kept c.in-Ok-happened.is c.in-Ok.ensures.taken in
    one-kept take (g.K.Keeper.told c.args.keeper.now) (g.K.Keeper.told c.happen.new.keeper) o s c.happen.new.self one (taken c.if-kept.true)

pub returns-then-kept-clause-made : goal.returns-then-kept-clause-made
returns-then-kept-clause-made g c =
    let o = c.args.o.now in
    let s = c.args.self.now in
    let one : IsOne o s c.happen.new.self = one-made o s c.happen.new.self c.in-Ok.happened c.in-Ok-happened.kept c.in-Ok-happened.is c.in-Ok.ensures.going c.in-Ok.ensures.next c.in-Ok.ensures.state in
    one-state o s c.happen.new.self one

pub returns-then-kept-clause-timely : goal.returns-then-kept-clause-timely
returns-then-kept-clause-timely g c =
    let o = c.args.o.now in
    let s = c.args.self.now in
    let one : IsOne o s c.happen.new.self = one-made o s c.happen.new.self c.in-Ok.happened c.in-Ok-happened.kept c.in-Ok-happened.is c.in-Ok.ensures.going c.in-Ok.ensures.next c.in-Ok.ensures.state in
    one-told o s c.happen.new.self one (on-ok c.in-Ok.happened c.in-Ok-happened.kept c.in-Ok-happened.is c.in-Ok.ensures.timely)

pub returns-then-kept-clause-offsets : goal.returns-then-kept-clause-offsets
returns-then-kept-clause-offsets g c = ap (λ (s : State). s.floor.offsets) (on-ok c.in-Ok.happened c.in-Ok-happened.kept c.in-Ok-happened.is c.in-Ok.ensures.state) ∙ event-offsets c.args.o.now c.args.self.now (first_waiting c.args.self.now)

pub returns-then-kept-clause-editable : goal.returns-then-kept-clause-editable
returns-then-kept-clause-editable g c e h =
    let s = c.args.self.now in
    let o = c.args.o.now in
    let same = ap (λ (q : State). settings_of q.floor) (on-ok c.in-Ok.happened c.in-Ok-happened.kept c.in-Ok-happened.is c.in-Ok.ensures.state) ∙ event-settings o s (first_waiting s) in
    edit-kept o s c.happen.new.self e c.requires.fits c.happen.ensures.fitting same h

-- the event, which the keeper refused
pub returns-clause-made : goal.returns-clause-made
returns-clause-made g c =
    let o = c.args.o.now in
    let s = c.args.self.now in
    let one : IsOne o s c.happen.new.self = one-made o s c.happen.new.self c.in-Ok.happened c.in-Ok-happened.kept c.in-Ok-happened.is c.in-Ok.ensures.going c.in-Ok.ensures.next c.in-Ok.ensures.state in
    one-state o s c.happen.new.self one

pub returns-clause-timely : goal.returns-clause-timely
returns-clause-timely g c =
    let o = c.args.o.now in
    let s = c.args.self.now in
    let one : IsOne o s c.happen.new.self = one-made o s c.happen.new.self c.in-Ok.happened c.in-Ok-happened.kept c.in-Ok-happened.is c.in-Ok.ensures.going c.in-Ok.ensures.next c.in-Ok.ensures.state in
    one-told o s c.happen.new.self one (on-ok c.in-Ok.happened c.in-Ok-happened.kept c.in-Ok-happened.is c.in-Ok.ensures.timely)

pub returns-clause-offsets : goal.returns-clause-offsets
returns-clause-offsets g c = ap (λ (s : State). s.floor.offsets) (on-ok c.in-Ok.happened c.in-Ok-happened.kept c.in-Ok-happened.is c.in-Ok.ensures.state) ∙ event-offsets c.args.o.now c.args.self.now (first_waiting c.args.self.now)

pub returns-clause-editable : goal.returns-clause-editable
returns-clause-editable g c e h =
    let s = c.args.self.now in
    let o = c.args.o.now in
    let same = ap (λ (q : State). settings_of q.floor) (on-ok c.in-Ok.happened c.in-Ok-happened.kept c.in-Ok-happened.is c.in-Ok.ensures.state) ∙ event-settings o s (first_waiting s) in
    edit-kept o s c.happen.new.self e c.requires.fits c.happen.ensures.fitting same h
