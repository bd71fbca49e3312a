use Rattle.std.proofs.Common.{◌≡◌, ◌∙◌, ℕ, None, Some, ap, arith, sym}
use Rattle.branch_tree.specs.Segments.{segment_at}
use Rattle.branch_tree.specs.declared.segment.Segment.{Segment}
use Rattle.kernel_copy.proofs.Trees.{course-tree}
use Rattle.rewind_desk.proofs.Chained.{on-first, on-parent, on-parents, on-self}
use Rattle.rewind_desk.proofs.chain.next_on_chain.Goals as goal

pub loop-parent-init : goal.loop-parent-init
loop-parent-init c = record {
  exists = c.requires.last;
  on = on-self c.args.course.now.plan c.args.last (course-tree c.args.course.now c.know_course.ensures) c.requires.last;
  behind = c.requires.on;
  further = λ e. c.requires.further (sym e);
  early = omega arith;
}

pub loop-parent-preserved : goal.loop-parent-preserved
loop-parent-preserved c =
    let p = c.args.course.now.plan in
    let i = c.loop-parent.invariant in
    let at = c.loop-parent.at in
    let q = c.in-Some.parent in
    let t = course-tree c.args.course.now c.know_course.ensures in
    let some : (segment_at p at).parent ≡ Some q = sym (ap (λ (x : Segment). x.parent) c.segment.ensures.value) ∙ c.in-Some.is in
    let earlier = (c.segment.ensures.parent q c.in-Some.is).earlier in
    record {
      exists = omega (arith, earlier, i.exists);
      on = on-parents p c.args.last at q t c.requires.last i.on some;
      behind = on-parent p at q c.args.from t i.exists some i.further i.behind;
      further = c.if-parent-from.false;
      early = omega (arith, earlier, i.early);
    }

pub returns-then-parent-from-clause-parent : goal.returns-then-parent-from-clause-parent
returns-then-parent-from-clause-parent c =
    sym (ap (λ (x : Segment). x.parent) c.segment.ensures.value) ∙ c.in-Some.is ∙ ap (λ (x : ℕ). Some x) c.if-parent-from.true

pub returns-then-parent-from-clause-later : goal.returns-then-parent-from-clause-later
returns-then-parent-from-clause-later c = omega (arith, c.if-parent-from.true, (c.segment.ensures.parent c.in-Some.parent c.in-Some.is).earlier)

pub loop-parent-smaller : goal.loop-parent-smaller
loop-parent-smaller c = omega (arith, (c.segment.ensures.parent c.in-Some.parent c.in-Some.is).earlier)

pub unreachable-requires : goal.unreachable-requires
unreachable-requires c =
    let p = c.args.course.now.plan in
    let i = c.loop-parent.invariant in
    let none : (segment_at p c.loop-parent.at).parent ≡ None = sym (ap (λ (x : Segment). x.parent) c.segment.ensures.value) ∙ c.in_default.is in
    i.further (on-first p c.loop-parent.at c.args.from none i.behind)
