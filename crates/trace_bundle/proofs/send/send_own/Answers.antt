use Rattle.std.proofs.Common.{List, ℕ, subst, sym}
use Rattle.kernel_copy.specs.Kept.{KeptTold}
use Rattle.trace_bundle.specs.Tallied.{own_frames}
use Rattle.trace_bundle.proofs.Sending.{own-writable}
use Rattle.trace_bundle.proofs.send.send_own.Goals as goal

pub segment-requires-clause-writable : goal.segment-requires-clause-writable
segment-requires-clause-writable g c =
    let k = c.args.course.now in
    let s = c.args.segment in
    own-writable k _ _ _ s _ c.requires.ran c.requires.segment c.kept.ensures (c.courses_stay_in_range.ensures.segments k s c.know_course.ensures c.requires.segment)

pub segment-requires-clause-own : goal.segment-requires-clause-own
segment-requires-clause-own g c =
    let s = c.args.segment in
    let bytes = own_frames c.args.course.now s in
    (bytes, subst (λ (kept : KeptTold). g.C.Carrier.IsOwn c.args.carrier.now s kept bytes) (sym c.kept.ensures) (c.requires.own s c.requires.segment))

pub returns : goal.returns
returns g c =
    let k = c.args.course.now in
    let s = c.args.segment in
    c.segment.ensures (own_frames k s)
    (subst (λ (kept : KeptTold). g.C.Carrier.IsOwn c.args.carrier.now s kept (own_frames k s)) (sym c.kept.ensures) (c.requires.own s c.requires.segment))
