use Rattle.std.proofs.Common.{◌+◌, ◌++◌, ℕ, List, Ok, Err, subst, arith}
use Rattle.kernel_copy.specs.Full.{full_run}
use Rattle.trace_bundle.specs.Bundle.{end_of_trace, opening_of_trace, trace_of}
use Rattle.trace_bundle.specs.Tallied.{frames_to, parts_of_trace}
use Rattle.trace_bundle.proofs.Sending.{handed, trace-joined}
use Rattle.trace_bundle.proofs.send.send_branch.Goals as goal

pub returns-in_err-send_made : goal.returns-in_err-send_made
returns-in_err-send_made g c =
    let k = c.args.course.now in
    let b = c.args.branch in
    let s = c.last_segment-last.result in
    let error = c.in_err-send_made.field-0.0 in
    let start = c.args.to.now in
    let to = c.send_made.new.to in
    let opening = opening_of_trace k b in
    let end = end_of_trace k (full_run k.opening k.plan b) in
    handed (g.C.Carrier.Carried start to (trace_of k b) (parts_of_trace k)) c.from_residual.result error c.from_residual.ensures
    (subst (λ (bytes : List ℕ). g.C.Carrier.Carried start to bytes (parts_of_trace k) (Err error)) (trace-joined k b s c.know_course.ensures c.requires.branch c.last_segment-last.ensures.last)
    (g.met.C.Carrier.cut start to (opening ++ frames_to k s) end 1 (parts_of_trace k) error
    (g.met.C.Carrier.cut start to opening (frames_to k s) 1 1 error (c.in_err-send_made.ensures opening c.opening_bytes.ensures))))

pub returns-in_err-send_entries : goal.returns-in_err-send_entries
returns-in_err-send_entries g c =
    let k = c.args.course.now in
    let b = c.args.branch in
    let s = c.last_segment-last.result in
    let error = c.in_err-send_entries.field-0.0 in
    let start = c.args.to.now in
    let to = c.send_entries.new.to in
    let opening = opening_of_trace k b in
    let end = end_of_trace k (full_run k.opening k.plan b) in
    handed (g.C.Carrier.Carried start to (trace_of k b) (parts_of_trace k)) c.from_residual-in_err-send_entries.result error c.from_residual-in_err-send_entries.ensures
    (subst (λ (bytes : List ℕ). g.C.Carrier.Carried start to bytes (parts_of_trace k) (Err error)) (trace-joined k b s c.know_course.ensures c.requires.branch c.last_segment-last.ensures.last)
    (g.met.C.Carrier.cut start to (opening ++ frames_to k s) end (s + 2) (parts_of_trace k) error
    (g.met.C.Carrier.behind start c.send_made.new.to to opening (frames_to k s) 1 (s + 1) (s + 2) (Err error)
    (c.in_ok-send_made.ensures opening c.opening_bytes.ensures) c.in_err-send_entries.ensures (omega arith))))

pub returns : goal.returns
returns g c =
    let k = c.args.course.now in
    let b = c.args.branch in
    let s = c.last_segment-last.result in
    let start = c.args.to.now in
    let to = c.send_made-2.new.to in
    let opening = opening_of_trace k b in
    let end = end_of_trace k (full_run k.opening k.plan b) in
    subst (λ (bytes : List ℕ). g.C.Carrier.Carried start to bytes (parts_of_trace k) c.send_made-2.result) (trace-joined k b s c.know_course.ensures c.requires.branch c.last_segment-last.ensures.last)
    (g.met.C.Carrier.behind start c.send_entries.new.to to (opening ++ frames_to k s) end (s + 2) 1 (parts_of_trace k) c.send_made-2.result
    (g.met.C.Carrier.behind start c.send_made.new.to c.send_entries.new.to opening (frames_to k s) 1 (s + 1) (s + 2) (Ok tt)
    (c.in_ok-send_made.ensures opening c.opening_bytes.ensures) c.in_ok-send_entries.ensures (omega arith))
    (c.send_made-2.ensures end c.ending_bytes.ensures) (omega (arith, c.last_segment-last.ensures.exists)))
