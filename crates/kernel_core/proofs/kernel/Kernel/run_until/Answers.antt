use Rattle.std.proofs.Common.{◌≤◌, ◌-◌, subst}
use Rattle.kernel_core.specs.State.{State}
use Rattle.kernel_core.proofs.Fresh.{between, events-between, traced-by, traced-timely, traced-until, until-alike}
use Rattle.kernel_core.proofs.Traces.{both-ok}
use Rattle.kernel_core.proofs.kernel.Kernel.run_until.Goals as goal

pub returns-clause-ran : goal.returns-clause-ran
returns-clause-ran g c =
    let e = c.run_into.ensures in
    both-ok c.run_into.result (traced-until c.args.o.now c.args.stop c.args.self.now c.run_into.new.self c.args.trace.now.list c.run_into.new.keeper.list) e.ran e.kept

pub returns-clause-made : goal.returns-clause-made
returns-clause-made g c =
    let s = c.args.self.now in
    let q = c.run_into.new.self in
    traced-by (q.events - s.events) c.args.o.now s q c.args.trace.now.list c.run_into.new.keeper.list c.run_into.ensures.made (c.run_into.ensures.made_kept tt)

pub returns-clause-within : goal.returns-clause-within
returns-clause-within g c =
    let q = c.run_into.new.self in
    subst (λ (x : State). q.events ≤ x.events) (until-alike c.args.o.now c.args.stop c.args.self.now c.args.trace.now.list) c.run_into.ensures.within

pub returns-clause-timely : goal.returns-clause-timely
returns-clause-timely g c old =
    let o = c.args.o.now in
    let s = c.args.self.now in
    let q = c.run_into.new.self in
    traced-timely c.args.trace.now.list c.run_into.new.keeper.list (between o s q).entries (events-between (q.events - s.events) o s) (c.run_into.ensures.made_kept tt) c.run_into.ensures.timely old
