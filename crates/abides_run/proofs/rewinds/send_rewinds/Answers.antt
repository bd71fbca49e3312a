use Rattle.std.proofs.Common.{length}
use Rattle.std.specs.List.{flat_map}
use Rattle.bundle_frames.specs.Frames.{end_frame}
use Rattle.abides_run.specs.Rewinds.{rewinds_of, target_frames}
use Rattle.abides_run.specs.Sending.{sent_before, sent_behind}
use Rattle.abides_run.proofs.Bundles.{handed_sent}
use Rattle.abides_run.proofs.rewinds.send_rewinds.Goals as goal

pub returns-in_err-send_targets-clause-sent : goal.returns-in_err-send_targets-clause-sent
unfolding rewinds_of
returns-in_err-send_targets-clause-sent g c =
    let k = c.args.course.now.value in
    let ts = c.args.targets.now in
    let st = c.in_err-send_targets.field-0.0 in
    handed_sent _ (g.O.Sink.faults c.args.out.now) (g.O.Sink.faults c.send_targets.new.out) (g.O.Sink.taken c.args.out.now) (g.O.Sink.taken c.send_targets.new.out) c.from_residual.result st
    c.from_residual.ensures
    (sent_before (flat_map (target_frames k) ts) (end_frame (length ts)) (g.O.Sink.faults c.args.out.now) (g.O.Sink.faults c.send_targets.new.out) (g.O.Sink.taken c.args.out.now) (g.O.Sink.taken c.send_targets.new.out) st c.in_err-send_targets.ensures.sent)

pub returns-clause-sent : goal.returns-clause-sent
unfolding rewinds_of
returns-clause-sent g c =
    let k = c.args.course.now.value in
    let ts = c.args.targets.now in
    let head = c.in_ok-send_targets.ensures.sent in
    sent_behind (flat_map (target_frames k) ts) (end_frame (length ts)) (g.O.Sink.faults c.args.out.now) (g.O.Sink.faults c.send_targets.new.out) (g.O.Sink.faults c.send_end.new.to) (g.O.Sink.taken c.args.out.now) (g.O.Sink.taken c.send_targets.new.out) (g.O.Sink.taken c.send_end.new.to) c.send_end.result
    head.whole head.steady c.send_end.ensures
