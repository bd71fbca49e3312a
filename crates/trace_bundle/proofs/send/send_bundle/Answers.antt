use Rattle.std.proofs.Common.{◌++◌, ◌+◌, Ok, Err, length, arith}
use Rattle.bundle_frames.specs.Frames.{end_frame}
use Rattle.trace_bundle.specs.Bundle.{bundle_of, header_of, traces_of}
use Rattle.trace_bundle.specs.Tallied.{parts_before, parts_of_bundle}
use Rattle.trace_bundle.proofs.Sending.{handed}
use Rattle.trace_bundle.proofs.send.send_bundle.Goals as goal

pub returns-in_err-send_made : goal.returns-in_err-send_made
returns-in_err-send_made g c =
    let k = c.args.course.now in
    let n = length k.plan.branches in
    let error = c.in_err-send_made.field-0.0 in
    let start = c.args.to.now in
    let to = c.send_made.new.to in
    handed (g.C.Carrier.Carried start to (bundle_of k) (parts_of_bundle k)) c.from_residual.result error c.from_residual.ensures
    (g.met.C.Carrier.cut start to (header_of k ++ traces_of k n) (end_frame n) 1 (parts_of_bundle k) error
    (g.met.C.Carrier.cut start to (header_of k) (traces_of k n) 1 1 error (c.in_err-send_made.ensures (header_of k) c.header_bytes.ensures)))

pub returns-in_err-send_branches : goal.returns-in_err-send_branches
returns-in_err-send_branches g c =
    let k = c.args.course.now in
    let n = length k.plan.branches in
    let error = c.in_err-send_branches.field-0.0 in
    let start = c.args.to.now in
    let to = c.send_branches.new.to in
    handed (g.C.Carrier.Carried start to (bundle_of k) (parts_of_bundle k)) c.from_residual-in_err-send_branches.result error c.from_residual-in_err-send_branches.ensures
    (g.met.C.Carrier.cut start to (header_of k ++ traces_of k n) (end_frame n) (1 + parts_before k n) (parts_of_bundle k) error
    (g.met.C.Carrier.behind start c.send_made.new.to to (header_of k) (traces_of k n) 1 (parts_before k n) (1 + parts_before k n) (Err error)
    (c.in_ok-send_made.ensures (header_of k) c.header_bytes.ensures) c.in_err-send_branches.ensures (omega arith)))

pub returns : goal.returns
returns g c =
    let k = c.args.course.now in
    let n = length k.plan.branches in
    let start = c.args.to.now in
    g.met.C.Carrier.behind start c.send_branches.new.to c.send_end.new.to (header_of k ++ traces_of k n) (end_frame n) (1 + parts_before k n) 1 (parts_of_bundle k) c.send_end.result
    (g.met.C.Carrier.behind start c.send_made.new.to c.send_branches.new.to (header_of k) (traces_of k n) 1 (parts_before k n) (1 + parts_before k n) (Ok tt)
    (c.in_ok-send_made.ensures (header_of k) c.header_bytes.ensures) c.in_ok-send_branches.ensures (omega arith))
    (rw c.plan.ensures.value at (rw c.branches.ensures.value at c.send_end.ensures)) (omega arith)
