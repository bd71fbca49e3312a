use Rattle.std.proofs.Common.{◌≡◌, ◌<◌, ◌+◌, ◌-◌, ◌++◌, suc, ℕ, List, [], Ok, Err, length, add-one, sym, subst, arith, rules}
use Rattle.trace_bundle.specs.Bundle.{trace_of, traces_of}
use Rattle.trace_bundle.specs.Tallied.{parts_before, parts_of_trace}
use Rattle.trace_bundle.proofs.Sending.{handed, traces-begin}
use Rattle.trace_bundle.proofs.send.send_branches.Goals as goal

pub loop-branch-init : goal.loop-branch-init
loop-branch-init g c =
    let start = c.args.to.now in
    g.met.C.Carrier.behind start start start [] [] 0 0 (parts_before c.args.course.now 0) (Ok tt) (g.met.C.Carrier.nothing start) (g.met.C.Carrier.nothing start) (omega arith)

pub loop-branch-preserved : goal.loop-branch-preserved
loop-branch-preserved g c =
    let k = c.args.course.now in
    let b = c.loop-branch.branch in
    subst (λ (n : ℕ). g.C.Carrier.Carried c.args.to.now c.send_branch.new.to (traces_of k n) (parts_before k (b + 1)) (Ok tt)) (sym (add-one b))
    (g.met.C.Carrier.behind c.args.to.now c.loop-branch.to c.send_branch.new.to (traces_of k b) (trace_of k b) (parts_before k b) (parts_of_trace k) (parts_before k (b + 1)) (Ok tt)
    c.loop-branch.invariant c.in_ok-send_branch.ensures (omega arith))

pub returns-in_err-send_branch : goal.returns-in_err-send_branch
returns-in_err-send_branch g c =
    let k = c.args.course.now in
    let n = length k.plan.branches in
    let b = c.loop-branch.branch in
    let within : b < n = search rules in
    let error = c.in_err-send_branch.field-0.0 in
    let start = c.args.to.now in
    let to = c.send_branch.new.to in
    let rest : (more : List ℕ) × (traces_of k (suc b) ++ more ≡ traces_of k n) = traces-begin k (suc b) (n - suc b) n (omega (arith, within)) in
    handed (g.C.Carrier.Carried start to (traces_of k n) (parts_before k n)) c.from_residual.result error c.from_residual.ensures
    (subst (λ (bytes : List ℕ). g.C.Carrier.Carried start to bytes (parts_before k n) (Err error)) rest.1
    (g.met.C.Carrier.cut start to (traces_of k (suc b)) rest.0 (parts_before k (b + 1)) (parts_before k n) error
    (g.met.C.Carrier.behind start c.loop-branch.to to (traces_of k b) (trace_of k b) (parts_before k b) (parts_of_trace k) (parts_before k (b + 1)) (Err error)
    c.loop-branch.invariant c.in_err-send_branch.ensures (omega arith))))

pub returns : goal.returns
returns g c =
    let k = c.args.course.now in
    let all : c.loop-branch.branch ≡ length k.plan.branches = search rules in
    subst (λ (n : ℕ). g.C.Carrier.Carried c.args.to.now c.loop-branch.to (traces_of k n) (parts_before k n) (Ok tt)) all c.loop-branch.invariant
