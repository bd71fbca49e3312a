use Rattle.std.proofs.Common.{◌≡◌, ◌+◌, ℕ, List, [], None, Some, Err, sym, ap, ◌∙◌, subst, arith}
use Rattle.branch_tree.specs.declared.segment.Segment.{Segment}
use Rattle.branch_tree.specs.Segments.{segment_at}
use Rattle.trace_bundle.specs.Tallied.{frames_to, own_frames}
use Rattle.trace_bundle.proofs.Entries.{frames-first, frames-next}
use Rattle.trace_bundle.proofs.Sending.{handed}
use Rattle.trace_bundle.proofs.send.+send_entries.Goals as goal

pub returns-in-None : goal.returns-in-None
returns-in-None g n c =
    let k = c.args.course.now in
    let s = c.args.segment in
    let none : (segment_at k.plan s).parent ≡ None = sym (ap (λ (y : Segment). y.parent) c.segment.ensures.value) ∙ c.in-None.is in
    let start = c.args.to.now in
    let end = c.send_own.new.to in
    subst (λ (bytes : List ℕ). g.C.Carrier.Carried start end bytes (s + 1) c.send_own.result)
    (frames-first k s c.segment.ensures.course c.requires.segment none)
    (g.met.C.Carrier.behind start start end [] (own_frames k s) 0 1 (s + 1) c.send_own.result (g.met.C.Carrier.nothing start) c.send_own.ensures (omega arith))

pub returns-in_err-send_entries-in-Some : goal.returns-in_err-send_entries-in-Some
returns-in_err-send_entries-in-Some g n c =
    let k = c.args.course.now in
    let s = c.args.segment in
    let q = c.in-Some.parent in
    let some : (segment_at k.plan s).parent ≡ Some q = sym (ap (λ (y : Segment). y.parent) c.segment.ensures.value) ∙ c.in-Some.is in
    let error = c.in_err-send_entries-in-Some.field-0.0 in
    let start = c.args.to.now in
    let end = c.send_entries.new.to in
    handed (g.C.Carrier.Carried start end (frames_to k s) (s + 1)) c.from_residual.result error c.from_residual.ensures
    (subst (λ (bytes : List ℕ). g.C.Carrier.Carried start end bytes (s + 1) (Err error)) (frames-next k s q c.segment.ensures.course c.requires.segment some)
    (g.met.C.Carrier.cut start end (frames_to k q) (own_frames k s) (q + 1) (s + 1) error c.in_err-send_entries-in-Some.ensures))

pub returns-in_ok-send_entries-in-Some : goal.returns-in_ok-send_entries-in-Some
returns-in_ok-send_entries-in-Some g n c =
    let k = c.args.course.now in
    let s = c.args.segment in
    let q = c.in-Some.parent in
    let some : (segment_at k.plan s).parent ≡ Some q = sym (ap (λ (y : Segment). y.parent) c.segment.ensures.value) ∙ c.in-Some.is in
    let earlier = (c.segment.ensures.parent q c.in-Some.is).earlier in
    let start = c.args.to.now in
    let end = c.send_own-in-Some.new.to in
    subst (λ (bytes : List ℕ). g.C.Carrier.Carried start end bytes (s + 1) c.send_own-in-Some.result) (frames-next k s q c.segment.ensures.course c.requires.segment some)
    (g.met.C.Carrier.behind start c.send_entries.new.to end (frames_to k q) (own_frames k s) (q + 1) 1 (s + 1) c.send_own-in-Some.result
    c.in_ok-send_entries-in-Some.ensures c.send_own-in-Some.ensures (omega (arith, earlier)))

pub send_entries-requires : goal.send_entries-requires
send_entries-requires g n c κs sub =
    let earlier = (c.segment.ensures.parent c.in-Some.parent c.in-Some.is).earlier in
    (omega (arith, earlier, c.decreases), (sub.0, (sub.1.0, (sub.1.1.0, (sub.1.1.1, (omega (arith, earlier, c.requires.segment), (c.requires.ran, c.requires.own)))))))
