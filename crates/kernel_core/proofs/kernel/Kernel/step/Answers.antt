use Rattle.std.proofs.Common.{◌≡◌, ◌+◌, ◌-◌, ap, arith}
use Rattle.std.proofs.lemmas.Result.{IfOk-weaker}
use Rattle.kernel_core.specs.State.{State}
use Rattle.kernel_core.specs.Step.{raised}
use Rattle.kernel_core.proofs.Fresh.{between, events-between}
use Rattle.kernel_core.proofs.Traces.{step-made, step-timely, sure-err}
use Rattle.kernel_core.proofs.kernel.Kernel.step.Goals as goal

pub returns-clause-made : goal.returns-clause-made
returns-clause-made g c =
    let e = c.step_into.ensures in
    step-made c.args.o.now c.args.self.now c.step_into.new.self c.args.trace.now.list c.step_into.new.keeper.list c.step_into.result e.made e.answer e.events e.kept

pub returns-clause-ticks : goal.returns-clause-ticks
returns-clause-ticks g c =
    let s = c.args.self.now in
    let q = c.step_into.new.self in
    let ticks = c.step_into.ensures.ticks in
    IfOk-weaker c.step_into.result (λ a. q.events ≡ s.events + raised a) (λ a. c.step_into.new.steps ≡ c.args.steps.now + raised a) (λ a h. omega arith) c.step_into.ensures.events

pub returns-clause-timely : goal.returns-clause-timely
returns-clause-timely g c old =
    let o = c.args.o.now in
    let s = c.args.self.now in
    let q = c.step_into.new.self in
    let e = c.step_into.ensures in
    step-timely c.args.trace.now.list c.step_into.new.keeper.list (between o s q).entries c.step_into.result e.kept e.keeper_refused (events-between (q.events - s.events) o s) e.timely old

pub returns-clause-kernel_refused : goal.returns-clause-kernel_refused
returns-clause-kernel_refused g c = sure-err c.step_into.result (λ h. h) c.step_into.ensures.refused

pub returns-clause-trace_refused : goal.returns-clause-trace_refused
returns-clause-trace_refused g c = sure-err c.step_into.result (λ h. h) c.step_into.ensures.keeper_refused

pub returns-clause-steps_refused : goal.returns-clause-steps_refused
returns-clause-steps_refused g c =
    let ticks = c.step_into.ensures.ticks in
    sure-err c.step_into.result (λ (h : c.step_into.new.self ≡ c.args.self.now). let same = ap (λ (s : State). s.events) h in omega arith) c.step_into.ensures.refused
