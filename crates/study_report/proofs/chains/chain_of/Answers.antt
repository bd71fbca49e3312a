use Rattle.std.proofs.Common.{◌≡◌, ◌<◌, ◌∙◌, ◌++◌, ◌∷◌, [], Some, ap, arith, length, sym}
use Rattle.branch_tree.specs.declared.segment.Segment.{Segment}
use Rattle.branch_tree.specs.Segments.{segment_at, segments_in}
use Rattle.kernel_copy.specs.Courses.{CourseTold}
use Rattle.study_report.proofs.Chained.{climbed-last, climbed-more}
use Rattle.study_report.proofs.chains.chain_of.Goals as goal

pub loop-parent-init : goal.loop-parent-init
loop-parent-init c =
    let last = c.last_segment-at.ensures in
    let pushed = c.in_ok-push.ensures.items ∙ ap (λ xs. xs ++ c.last_segment-at.result ∷ []) c.new-chain.ensures.items in
    climbed-last c.args.course.now c.args.branch c.last_segment-at.result c.push.new.self.items c.know_course.ensures c.requires last.last last.exists pushed

pub loop-parent-preserved : goal.loop-parent-preserved
loop-parent-preserved c =
    let k : CourseTold = c.args.course.now in
    let at = c.loop-parent.at in
    let q = c.in-Some.parent in
    let some : (segment_at k.plan at).parent ≡ Some q = sym (ap (λ (x : Segment). x.parent) c.segment.ensures.value) ∙ c.in-Some.is in
    let earlier = (c.segment.ensures.parent q c.in-Some.is).earlier in
    let within : q < length (segments_in k.plan) = omega (arith, earlier, c.loop-parent.invariant.exists) in
    climbed-more k c.args.branch at q c.loop-parent.chain.items c.push-in-Some.new.self.items c.know_course.ensures within some c.in_ok-push-2.ensures.items c.loop-parent.invariant
