use Rattle.std.proofs.Common.{List, ℕ, ◌+◌, ◌<◌, length, rules, sym, subst}
use Rattle.branch_tree.specs.Segments.{segments_in}
use Rattle.trace_bundle.specs.Tallied.{AreTalliesOf, own_frames}
use Rattle.kernel_copy.specs.declared.tally.Tally.{Tally}
use Rattle.trace_bundle.proofs.Sending.{own-told, own-writable}
use Rattle.trace_bundle.proofs.Tallies.{tallies-more}
use Rattle.trace_bundle.proofs.segment_tallies.segment_tallies.Goals as goal

pub of_kept-requires : goal.of_kept-requires
of_kept-requires g c =
    let k = c.args.course.now in
    let s = c.loop-segment.segment in
    let there : s < length (segments_in k.plan) = search rules in
    own-writable k _ _ _ s _ c.requires.run there c.kept.ensures (c.courses_stay_in_range.ensures.segments k s c.plan.ensures.course there)

pub loop-segment-preserved : goal.loop-segment-preserved
loop-segment-preserved g c =
    let k = c.args.course.now in
    let s = c.loop-segment.segment in
    let there : s < length (segments_in k.plan) = search rules in
    let t = c.in_ok-of_kept.field-0 in
    subst (λ (ts : List Tally). AreTalliesOf k (s + 1) ts) (sym c.in_ok-push.ensures.items)
    (tallies-more k s c.loop-segment.tallies.items t c.loop-segment.invariant
    (c.in_ok-of_kept.ensures (own_frames k s) (own-told k _ _ _ s _ c.requires there c.kept.ensures)))
