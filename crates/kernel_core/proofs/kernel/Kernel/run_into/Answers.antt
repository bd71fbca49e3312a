use Rattle.std.proofs.Common.{◌≡◌, ◌+◌, sym, ap, ◌∙◌, arith}
use Rattle.kernel_core.specs.Seen.{folded}
use Rattle.kernel_core.specs.State.{State}
use Rattle.kernel_core.specs.Step.{end_of, raised}
use Rattle.kernel_core.specs.Until.{Run}
use Rattle.kernel_core.proofs.Fresh.{between, between-none, ended-run, on-kept, on-made, on-timely, stays, stopped-run, time-run, within-run}
use Rattle.kernel_core.proofs.Runs.{ended_from}
use Rattle.kernel_core.proofs.kernel.Kernel.run_into.Goals as goal

pub events-preserved : goal.events-preserved
events-preserved g c =
    let o = c.args.o.now in
    let s0 = c.args.self.now in
    let s = c.events.self in
    let q = c.step_into.new.self in
    let v = c.events.invariant in
    let one : raised c.in-Ok.stepped ≡ 1 = ap raised c.in-Event.is in
    let events : q.events ≡ s.events + raised c.in-Ok.stepped = c.in-Ok.ensures.events in
    let more = c.step_into.ensures.grows in
    record {
      fits = c.step_into.ensures.fitting;
      made = on-made o s0 s q v.grows more v.made c.step_into.ensures.made;
      kept = on-kept g.K.Keeper.with _ _ _ o s0 s q v.grows more v.made v.kept c.in-Ok.ensures.kept;
      timely = on-timely o s0 s q v.grows more v.made v.timely c.step_into.ensures.timely;
      grows = omega (arith, v.grows);
      most = omega (arith, v.grows, v.most);
      ticks = omega (arith, v.ticks, c.step_into.ensures.ticks);
      offsets = c.step_into.ensures.offsets ∙ v.offsets;
      editable = λ e before. c.step_into.ensures.editable e (v.editable e before);
      drops = omega (arith, c.step_into.ensures.drops, v.drops);
    }

-- at the end of the loop
pub returns-clause-ran : goal.returns-clause-ran
returns-clause-ran g c =
    let v = c.events.invariant in
    v.made ∙ ap (λ (r : Run). r.state) (stopped-run c.args.o.now c.args.self.now c.events.self c.args.stop (omega arith) v.most)

pub returns-clause-kept : goal.returns-clause-kept
returns-clause-kept g c =
    let v = c.events.invariant in
    v.kept ∙ ap (λ (r : Run). folded g.K.Keeper.with (g.K.Keeper.told c.args.keeper.now) r.entries)
    (stopped-run c.args.o.now c.args.self.now c.events.self c.args.stop (omega arith) v.most)

pub returns-clause-within : goal.returns-clause-within
returns-clause-within g c =
    let v = c.events.invariant in
    within-run c.args.o.now c.args.self.now c.events.self c.args.stop v.made v.most

pub returns-clause-time : goal.returns-clause-time
returns-clause-time g c before = time-run c.args.o.now c.args.self.now c.events.self c.events.invariant.made before

-- where the state is ended
pub returns-in-Ended-clause-answer : goal.returns-in-Ended-clause-answer
returns-in-Ended-clause-answer g c =
    let o = c.args.o.now in
    let s = c.events.self in
    let q = c.step_into.new.self in
    let e = ended_from s (end_of o s) c.in-Ended.end (sym c.in-Ended.is ∙ c.in-Ok.ensures.answer) in
    let none : raised c.in-Ok.stepped ≡ 0 = ap raised c.in-Ended.is in
    let events : q.events ≡ s.events + raised c.in-Ok.stepped = c.in-Ok.ensures.events in
    let same = stays o s q (omega arith) c.step_into.ensures.made in
    sym (ap (λ (x : State). end_of o x) same ∙ e)

pub returns-in-Ended-clause-ran : goal.returns-in-Ended-clause-ran
returns-in-Ended-clause-ran g c =
    let o = c.args.o.now in
    let s = c.events.self in
    let q = c.step_into.new.self in
    let v = c.events.invariant in
    let e = ended_from s (end_of o s) c.in-Ended.end (sym c.in-Ended.is ∙ c.in-Ok.ensures.answer) in
    let none : raised c.in-Ok.stepped ≡ 0 = ap raised c.in-Ended.is in
    let events : q.events ≡ s.events + raised c.in-Ok.stepped = c.in-Ok.ensures.events in
    stays o s q (omega arith) c.step_into.ensures.made ∙ v.made
    ∙ ap (λ (r : Run). r.state) (ended-run o c.args.self.now s c.args.stop c.in-Ended.end v.made v.most e)

pub returns-in-Ended-clause-kept : goal.returns-in-Ended-clause-kept
returns-in-Ended-clause-kept g c =
    let o = c.args.o.now in
    let s = c.events.self in
    let q = c.step_into.new.self in
    let v = c.events.invariant in
    let e = ended_from s (end_of o s) c.in-Ended.end (sym c.in-Ended.is ∙ c.in-Ok.ensures.answer) in
    let none : raised c.in-Ok.stepped ≡ 0 = ap raised c.in-Ended.is in
    let events : q.events ≡ s.events + raised c.in-Ok.stepped = c.in-Ok.ensures.events in
    let same = stays o s q (omega arith) c.step_into.ensures.made in
    c.in-Ok.ensures.kept
    ∙ ap (λ (r : Run). folded g.K.Keeper.with (g.K.Keeper.told c.events.keeper) r.entries) (between-none o s q same)
    ∙ v.kept
    ∙ ap (λ (r : Run). folded g.K.Keeper.with (g.K.Keeper.told c.args.keeper.now) r.entries) (ended-run o c.args.self.now s c.args.stop c.in-Ended.end v.made v.most e)

pub returns-in-Ended-clause-made : goal.returns-in-Ended-clause-made
returns-in-Ended-clause-made g c =
    let v = c.events.invariant in
    on-made c.args.o.now c.args.self.now c.events.self c.step_into.new.self v.grows c.step_into.ensures.grows v.made c.step_into.ensures.made

pub returns-in-Ended-clause-made_kept : goal.returns-in-Ended-clause-made_kept
returns-in-Ended-clause-made_kept g c sure =
    let v = c.events.invariant in
    on-kept g.K.Keeper.with _ _ _ c.args.o.now c.args.self.now c.events.self c.step_into.new.self v.grows c.step_into.ensures.grows v.made v.kept c.in-Ok.ensures.kept

pub returns-in-Ended-clause-timely : goal.returns-in-Ended-clause-timely
returns-in-Ended-clause-timely g c =
    let v = c.events.invariant in
    on-timely c.args.o.now c.args.self.now c.events.self c.step_into.new.self v.grows c.step_into.ensures.grows v.made v.timely c.step_into.ensures.timely

pub returns-in-Ended-clause-within : goal.returns-in-Ended-clause-within
returns-in-Ended-clause-within g c =
    let o = c.args.o.now in
    let s0 = c.args.self.now in
    let s = c.events.self in
    let q = c.step_into.new.self in
    let v = c.events.invariant in
    within-run o s0 q c.args.stop (on-made o s0 s q v.grows c.step_into.ensures.grows v.made c.step_into.ensures.made) (omega (arith, v.grows, c.step_into.ensures.one))

pub returns-in-Ended-clause-time : goal.returns-in-Ended-clause-time
returns-in-Ended-clause-time g c before =
    let o = c.args.o.now in
    let s0 = c.args.self.now in
    let s = c.events.self in
    let q = c.step_into.new.self in
    let v = c.events.invariant in
    time-run o s0 q (on-made o s0 s q v.grows c.step_into.ensures.grows v.made c.step_into.ensures.made) before

-- after want of memory
pub returns-in_default-clause-made : goal.returns-in_default-clause-made
returns-in_default-clause-made g c =
    let v = c.events.invariant in
    on-made c.args.o.now c.args.self.now c.events.self c.step_into.new.self v.grows c.step_into.ensures.grows v.made c.step_into.ensures.made

pub returns-in_default-clause-made_kept : goal.returns-in_default-clause-made_kept
returns-in_default-clause-made_kept g c sure =
    let o = c.args.o.now in
    let s0 = c.args.self.now in
    let same = c.in_default.ensures.refused sure in
    c.in_default.ensures.keeper_refused sure ∙ c.events.invariant.kept
    ∙ ap (λ (x : State). folded g.K.Keeper.with (g.K.Keeper.told c.args.keeper.now) (between o s0 x).entries) (sym same)

pub returns-in_default-clause-timely : goal.returns-in_default-clause-timely
returns-in_default-clause-timely g c =
    let v = c.events.invariant in
    on-timely c.args.o.now c.args.self.now c.events.self c.step_into.new.self v.grows c.step_into.ensures.grows v.made v.timely c.step_into.ensures.timely

pub returns-in_default-clause-within : goal.returns-in_default-clause-within
returns-in_default-clause-within g c =
    let o = c.args.o.now in
    let s0 = c.args.self.now in
    let s = c.events.self in
    let q = c.step_into.new.self in
    let v = c.events.invariant in
    within-run o s0 q c.args.stop (on-made o s0 s q v.grows c.step_into.ensures.grows v.made c.step_into.ensures.made) (omega (arith, v.grows, c.step_into.ensures.one))

pub returns-in_default-clause-time : goal.returns-in_default-clause-time
returns-in_default-clause-time g c before =
    let o = c.args.o.now in
    let s0 = c.args.self.now in
    let s = c.events.self in
    let q = c.step_into.new.self in
    let v = c.events.invariant in
    time-run o s0 q (on-made o s0 s q v.grows c.step_into.ensures.grows v.made c.step_into.ensures.made) before
