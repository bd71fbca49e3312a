use Rattle.std.proofs.Common.{◌≡◌, ◌∙◌, None, Some, ap, arith, refl, sym}
use Rattle.branch_tree.specs.Segments.{segment_at}
use Rattle.branch_tree.specs.declared.segment.Segment.{Segment}
use Rattle.kernel_copy.proofs.Trees.{course-tree}
use Rattle.rewind_desk.proofs.Chained.{on-alone, on-at, on-further}
use Rattle.rewind_desk.proofs.finding.is_on_chain.Goals as goal

pub loop-at-init : goal.loop-at-init
loop-at-init c = record { exists = c.requires; same = refl }

pub loop-at-preserved : goal.loop-at-preserved
loop-at-preserved c =
    let k = c.args.course.now in
    let p = k.plan in
    let at = c.loop-at.at in
    let q = c.in-Some.parent in
    let some : (segment_at p at).parent ≡ Some q = sym (ap (λ (x : Segment). x.parent) c.segment.ensures.value) ∙ c.in-Some.is in
    let earlier = (c.segment.ensures.parent q c.in-Some.is).earlier in
    record {
      exists = omega (arith, earlier, c.loop-at.invariant.exists);
      same = sym (on-further p at q c.args.segment (course-tree k c.segment.ensures.course) c.loop-at.invariant.exists some c.loop-at-test.true) ∙ c.loop-at.invariant.same;
    }

pub loop-at-smaller : goal.loop-at-smaller
loop-at-smaller c = omega (arith, (c.segment.ensures.parent c.in-Some.parent c.in-Some.is).earlier)

pub returns-in_default : goal.returns-in_default
returns-in_default c =
    let p = c.args.course.now.plan in
    let none : (segment_at p c.loop-at.at).parent ≡ None = sym (ap (λ (x : Segment). x.parent) c.segment.ensures.value) ∙ c.in_default.is in
    sym (sym c.loop-at.invariant.same ∙ on-alone p c.loop-at.at c.args.segment none c.loop-at-test.true)

pub returns : goal.returns
returns c =
    let k = c.args.course.now in
    sym (sym c.loop-at.invariant.same ∙ on-at k.plan c.loop-at.at c.args.segment (course-tree k c.know_course.ensures) c.loop-at.invariant.exists c.loop-at-test.false)
