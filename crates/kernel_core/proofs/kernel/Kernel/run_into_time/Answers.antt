use Rattle.std.proofs.Common.{◌≡◌, ◌+◌, sym, ap, ◌∙◌, arith}
use Rattle.kernel_core.specs.Seen.{folded}
use Rattle.kernel_core.specs.State.{State}
use Rattle.kernel_core.specs.Step.{raised}
use Rattle.kernel_core.specs.Until.{Run}
use Rattle.kernel_core.proofs.Fresh.{between, due-unended, on-kept, on-made, on-timely, time-done, time-more, time-part, time-part-due, time-run}
use Rattle.kernel_core.proofs.kernel.Kernel.run_into_time.Goals as goal

pub events-preserved : goal.events-preserved
events-preserved g c =
    let o = c.args.o.now in
    let s0 = c.args.self.now in
    let s = c.events.self in
    let q = c.step_into.new.self in
    let v = c.events.invariant in
    let due = c.is_due.ensures.going c.events-test.true in
    let one : raised c.in-Ok.stepped ≡ 1 = ap raised c.in-Event.is in
    let events : q.events ≡ s.events + raised c.in-Ok.stepped = c.in-Ok.ensures.events in
    let more = c.step_into.ensures.grows in
    record {
      fits = c.step_into.ensures.fitting;
      made = on-made o s0 s q v.grows more v.made c.step_into.ensures.made;
      kept = on-kept g.K.Keeper.with _ _ _ o s0 s q v.grows more v.made v.kept c.in-Ok.ensures.kept;
      timely = on-timely o s0 s q v.grows more v.made v.timely c.step_into.ensures.timely;
      grows = omega (arith, v.grows);
      rest = time-more o c.args.when c.args.most s0 s q v.grows (omega arith) v.made due.0 due.1 v.rest;
      ticks = omega (arith, v.ticks, c.step_into.ensures.ticks);
      offsets = c.step_into.ensures.offsets ∙ v.offsets;
      editable = λ e before. c.step_into.ensures.editable e (v.editable e before);
      drops = omega (arith, c.step_into.ensures.drops, v.drops);
    }

-- at the end of the loop
pub returns-clause-ran : goal.returns-clause-ran
returns-clause-ran g c =
    let v = c.events.invariant in
    v.made ∙ ap (λ (r : Run). r.state)
    (time-done c.args.o.now c.args.when c.args.most c.args.self.now c.events.self v.made (c.is_due.ensures.over c.events-test.false) v.rest)

pub returns-clause-kept : goal.returns-clause-kept
returns-clause-kept g c =
    let v = c.events.invariant in
    v.kept ∙ ap (λ (r : Run). folded g.K.Keeper.with (g.K.Keeper.told c.args.keeper.now) r.entries)
    (time-done c.args.o.now c.args.when c.args.most c.args.self.now c.events.self v.made (c.is_due.ensures.over c.events-test.false) v.rest)

pub returns-clause-within : goal.returns-clause-within
returns-clause-within g c =
    let v = c.events.invariant in
    time-part c.args.o.now c.args.when c.args.most c.args.self.now c.events.self v.made v.rest

pub returns-clause-time : goal.returns-clause-time
returns-clause-time g c before = time-run c.args.o.now c.args.self.now c.events.self c.events.invariant.made before

-- a state with a due message has an event
pub unreachable-requires : goal.unreachable-requires
unreachable-requires g c =
    due-unended c.args.o.now c.args.when c.events.self _ (c.is_due.ensures.going c.events-test.true).1 (sym c.in-Ended.is ∙ c.in-Ok.ensures.answer)

-- after want of memory
pub returns-in_default-clause-made : goal.returns-in_default-clause-made
returns-in_default-clause-made g c =
    let v = c.events.invariant in
    on-made c.args.o.now c.args.self.now c.events.self c.step_into.new.self v.grows c.step_into.ensures.grows v.made c.step_into.ensures.made

pub returns-in_default-clause-made_kept : goal.returns-in_default-clause-made_kept
returns-in_default-clause-made_kept g c sure =
    let o = c.args.o.now in
    let s0 = c.args.self.now in
    let same = c.in_default.ensures.refused sure in
    c.in_default.ensures.keeper_refused sure ∙ c.events.invariant.kept
    ∙ ap (λ (x : State). folded g.K.Keeper.with (g.K.Keeper.told c.args.keeper.now) (between o s0 x).entries) (sym same)

pub returns-in_default-clause-timely : goal.returns-in_default-clause-timely
returns-in_default-clause-timely g c =
    let v = c.events.invariant in
    on-timely c.args.o.now c.args.self.now c.events.self c.step_into.new.self v.grows c.step_into.ensures.grows v.made v.timely c.step_into.ensures.timely

pub returns-in_default-clause-within : goal.returns-in_default-clause-within
returns-in_default-clause-within g c =
    let v = c.events.invariant in
    let due = c.is_due.ensures.going c.events-test.true in
    omega (arith, c.step_into.ensures.one, time-part-due c.args.o.now c.args.when c.args.most c.args.self.now c.events.self v.made due.0 due.1 v.rest)

pub returns-in_default-clause-time : goal.returns-in_default-clause-time
returns-in_default-clause-time g c before =
    let o = c.args.o.now in
    let s0 = c.args.self.now in
    let s = c.events.self in
    let q = c.step_into.new.self in
    let v = c.events.invariant in
    time-run o s0 q (on-made o s0 s q v.grows c.step_into.ensures.grows v.made c.step_into.ensures.made) before
