use Rattle.std.proofs.Common.{◌≡◌, ◌∙◌, ℕ, ◌<◌, List, length, All, inl, inr, ap, rules, subst, arith}
use Rattle.std.proofs.lemmas.Bool.{cases_lt}
use Rattle.market_types.specs.Told.{EntryTold}
use Rattle.bundle_frames.specs.declared.closing.Closing.{Closing}
use Rattle.branch_tree.specs.Plan.{Plan}
use Rattle.branch_tree.specs.Segments.{segment_at, segments_in}
use Rattle.kernel_copy.specs.Closing.{closing_at}
use Rattle.kernel_copy.specs.Courses.{CourseTold}
use Rattle.kernel_copy.specs.Segmentwise.{segment_end}
use Rattle.audit_desk.specs.Clipped.{clipped_closing}
use Rattle.audit_desk.specs.Typed.{IsTyped, IsTypedSegment}
use Rattle.audit_desk.proofs.typed_runs.segments_fit.Goals as goal

pub loop-segment-preserved : goal.loop-segment-preserved
loop-segment-preserved g c = λ s l. elim (cases_lt s c.loop-segment.segment) [
  | inl less ↦ c.loop-segment.invariant s less
  | inr more ↦
      let k : CourseTold = c.args.course.now in
      let n = c.loop-segment.segment in
      let same : n ≡ s = omega arith in
      let there : n < length (segments_in k.plan) = search rules in
      let state = (segment_end k.opening k.plan (segment_at k.plan n)).state in
      let is : c.closing.result.now ≡ closing_at k.opening state = c.closing.ensures ∙ c.requires.closing n there in
      subst (λ (m : ℕ). IsTypedSegment k m) same (record {
        entries = subst (λ (es : List EntryTold). All IsTyped es) c.trace_of_segment.ensures c.in_ok-entries_fit.ensures;
        closing = subst (λ (x : Closing). clipped_closing x ≡ x) is c.closing_fits.ensures;
      })
]

pub returns : goal.returns
returns g c = λ s l.
    let count : length c.segments.result.now ≡ length (segments_in c.args.course.now.plan) =
    ap length c.segments.ensures.value ∙ ap (λ (p : Plan). length (segments_in p)) c.plan.ensures.value in
    c.loop-segment.invariant s (omega (arith, l, count, c.loop-segment-test.false))
