use Rattle.std.proofs.Common.{◌∙◌, arith}
use Rattle.abides_run.specs.Rewinds.{steps_from, target_frames}
use Rattle.abides_run.proofs.Aiming.{steps-more, steps-within}
use Rattle.abides_run.proofs.Bundles.{handed_sent, item_cut, item_sent}
use Rattle.abides_run.proofs.rewinds.send_targets.Goals as goal

pub returns-in_err-send_target-clause-sent : goal.returns-in_err-send_target-clause-sent
returns-in_err-send_target-clause-sent g c =
    let frames = target_frames c.args.course.now.value in
    let st = c.in_err-send_target.field-0.0 in
    handed_sent _ (g.O.Sink.faults c.args.out.now) (g.O.Sink.faults c.send_target.new.out) (g.O.Sink.taken c.args.out.now) (g.O.Sink.taken c.send_target.new.out) c.from_residual.result st
    c.from_residual.ensures
    (item_cut frames c.args.targets.now c.loop-i.i _ (g.O.Sink.faults c.args.out.now) (g.O.Sink.faults c.loop-i.out) (g.O.Sink.faults c.send_target.new.out) (g.O.Sink.taken c.args.out.now) (g.O.Sink.taken c.loop-i.out) (g.O.Sink.taken c.send_target.new.out) st
    c.loop-i-test.true c.loop-i.invariant.taken c.loop-i.invariant.faults c.in_err-send_target.ensures.sent)

pub returns-in_err-send_target-clause-most : goal.returns-in_err-send_target-clause-most
returns-in_err-send_target-clause-most g c =
    steps-within (steps_from c.args.shelf.now) c.args.targets.now c.loop-i.i _ c.args.steps.now c.loop-i.steps c.send_target.new.steps c.loop-i-test.true c.loop-i.invariant.most c.in_err-send_target.ensures.most

pub loop-i-preserved : goal.loop-i-preserved
loop-i-preserved g c = record {
  taken = item_sent (target_frames c.args.course.now.value) c.args.targets.now c.loop-i.i _ (g.O.Sink.taken c.args.out.now) (g.O.Sink.taken c.loop-i.out) (g.O.Sink.taken c.send_target.new.out) c.loop-i-test.true c.loop-i.invariant.taken c.in_ok-send_target.ensures.sent.whole;
  faults = c.in_ok-send_target.ensures.sent.steady ∙ c.loop-i.invariant.faults;
  least = omega (arith, c.loop-i.invariant.least, c.in_ok-send_target.ensures.least);
  most = steps-more (steps_from c.args.shelf.now) c.args.targets.now c.loop-i.i _ c.args.steps.now c.loop-i.steps c.send_target.new.steps c.loop-i-test.true c.loop-i.invariant.most c.in_ok-send_target.ensures.most;
}
