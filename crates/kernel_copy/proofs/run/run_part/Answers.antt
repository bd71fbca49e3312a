use Rattle.std.proofs.Common.{◌≤◌, ◌∙◌, ap, subst}
use Rattle.kernel_core.specs.Seen.{folded}
use Rattle.kernel_core.specs.Until.{Run}
use Rattle.kernel_copy.specs.Segmentwise.{afresh}
use Rattle.kernel_copy.proofs.Parts.{part-at, part-when}
use Rattle.kernel_copy.proofs.run.run_part.Goals as goal

pub returns-in_ok-run_into-in-At-clause-state : goal.returns-in_ok-run_into-in-At-clause-state
returns-in_ok-run_into-in-At-clause-state g c =
    let part = part-at c.args.o.now c.args.stop c.in-At.events c.args.most c.min.result (afresh c.args.kernel.now) c.in-At.is c.min.ensures in
    c.in_ok-run_into-in-At.ensures.ran ∙ ap (λ (r : Run). r.state) part

pub returns-in_ok-run_into-in-At-clause-kept : goal.returns-in_ok-run_into-in-At-clause-kept
returns-in_ok-run_into-in-At-clause-kept g c =
    let part = part-at c.args.o.now c.args.stop c.in-At.events c.args.most c.min.result (afresh c.args.kernel.now) c.in-At.is c.min.ensures in
    c.in_ok-run_into-in-At.ensures.kept ∙ ap (λ (r : Run). folded g.K.Keeper.with (g.K.Keeper.told c.args.keeper.now) r.entries) part

pub returns-in_ok-run_into-in-At-clause-within : goal.returns-in_ok-run_into-in-At-clause-within
returns-in_ok-run_into-in-At-clause-within g c =
    let part = part-at c.args.o.now c.args.stop c.in-At.events c.args.most c.min.result (afresh c.args.kernel.now) c.in-At.is c.min.ensures in
    subst (λ (r : Run). c.run_into.new.self.events ≤ r.state.events) part c.run_into.ensures.within

pub returns-in_err-run_into-in-At-clause-within : goal.returns-in_err-run_into-in-At-clause-within
returns-in_err-run_into-in-At-clause-within g c =
    let part = part-at c.args.o.now c.args.stop c.in-At.events c.args.most c.min.result (afresh c.args.kernel.now) c.in-At.is c.min.ensures in
    subst (λ (r : Run). c.run_into.new.self.events ≤ r.state.events) part c.run_into.ensures.within

pub returns-in_ok-run_into-in-At-clause-made : goal.returns-in_ok-run_into-in-At-clause-made
returns-in_ok-run_into-in-At-clause-made g c = c.run_into.ensures.made

pub returns-in_err-run_into-in-At-clause-made : goal.returns-in_err-run_into-in-At-clause-made
returns-in_err-run_into-in-At-clause-made g c = c.run_into.ensures.made

pub returns-in_ok-run_into_time-in-When-clause-state : goal.returns-in_ok-run_into_time-in-When-clause-state
returns-in_ok-run_into_time-in-When-clause-state g c =
    let part = part-when c.args.o.now c.args.stop c.in-When.time c.args.most (afresh c.args.kernel.now) c.in-When.is in
    c.in_ok-run_into_time-in-When.ensures.ran ∙ ap (λ (r : Run). r.state) part

pub returns-in_ok-run_into_time-in-When-clause-kept : goal.returns-in_ok-run_into_time-in-When-clause-kept
returns-in_ok-run_into_time-in-When-clause-kept g c =
    let part = part-when c.args.o.now c.args.stop c.in-When.time c.args.most (afresh c.args.kernel.now) c.in-When.is in
    c.in_ok-run_into_time-in-When.ensures.kept ∙ ap (λ (r : Run). folded g.K.Keeper.with (g.K.Keeper.told c.args.keeper.now) r.entries) part

pub returns-in_ok-run_into_time-in-When-clause-within : goal.returns-in_ok-run_into_time-in-When-clause-within
returns-in_ok-run_into_time-in-When-clause-within g c =
    let part = part-when c.args.o.now c.args.stop c.in-When.time c.args.most (afresh c.args.kernel.now) c.in-When.is in
    subst (λ (r : Run). c.run_into_time.new.self.events ≤ r.state.events) part c.run_into_time.ensures.within

pub returns-in_err-run_into_time-in-When-clause-within : goal.returns-in_err-run_into_time-in-When-clause-within
returns-in_err-run_into_time-in-When-clause-within g c =
    let part = part-when c.args.o.now c.args.stop c.in-When.time c.args.most (afresh c.args.kernel.now) c.in-When.is in
    subst (λ (r : Run). c.run_into_time.new.self.events ≤ r.state.events) part c.run_into_time.ensures.within

pub returns-in_ok-run_into_time-in-When-clause-made : goal.returns-in_ok-run_into_time-in-When-clause-made
returns-in_ok-run_into_time-in-When-clause-made g c = c.run_into_time.ensures.made

pub returns-in_err-run_into_time-in-When-clause-made : goal.returns-in_err-run_into_time-in-When-clause-made
returns-in_err-run_into_time-in-When-clause-made g c = c.run_into_time.ensures.made
