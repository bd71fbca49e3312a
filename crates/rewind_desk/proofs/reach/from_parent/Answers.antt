use Rattle.std.proofs.Common.{◌≡◌, ℕ, ◌+◌, Some, IfOk, ap, ◌∙◌, subst, arith}
use Rattle.branch_tree.specs.declared.segment.Segment.{Segment}
use Rattle.kernel_copy.specs.Courses.{CourseTold}
use Rattle.kernel_copy.specs.Segmentwise.{started_from}
use Rattle.rewind_desk.proofs.Arrivals.{from-parent, go-events}
use Rattle.rewind_desk.proofs.reach.from_parent.Goals as goal

pub go_on-requires-clause-segment : goal.go_on-requires-clause-segment
go_on-requires-clause-segment g c =
    let is = ap (λ (x : Segment). x.parent) c.segment-branch.ensures.value ∙ c.requires.parent in
    omega (arith, c.requires.segment, (c.segment-branch.ensures.parent c.args.parent is).earlier)

pub arrive-requires-clause-on : goal.arrive-requires-clause-on
arrive-requires-clause-on g c =
    let k : CourseTold = c.args.course.now in
    let started = c.in-Ok.ensures.state ∙ ap (λ (x : Segment). started_from k.opening k.plan x.branch (Some c.args.parent)) c.segment-branch.ensures.value in
    from-parent k c.args.segment c.args.parent c.go_on.new.kernel c.go_on.new.trace.list c.segment-branch.ensures.course c.requires.segment c.requires.parent started

pub arrive-requires-clause-early : goal.arrive-requires-clause-early
arrive-requires-clause-early g c =
    let k : CourseTold = c.args.course.now in
    let started = c.in-Ok.ensures.state ∙ ap (λ (x : Segment). started_from k.opening k.plan x.branch (Some c.args.parent)) c.segment-branch.ensures.value in
    omega (arith, c.requires.from, go-events k c.args.segment c.args.parent c.args.kernel c.go_on.new.kernel c.go_on.new.trace.list c.segment-branch.ensures.course c.requires.segment c.requires.parent c.requires.end started)

pub arrive-requires-clause-count : goal.arrive-requires-clause-count
arrive-requires-clause-count g c =
    let k : CourseTold = c.args.course.now in
    let started = c.in-Ok.ensures.state ∙ ap (λ (x : Segment). started_from k.opening k.plan x.branch (Some c.args.parent)) c.segment-branch.ensures.value in
    omega (arith, c.requires.count, go-events k c.args.segment c.args.parent c.args.kernel c.go_on.new.kernel c.go_on.new.trace.list c.segment-branch.ensures.course c.requires.segment c.requires.parent c.requires.end started)

pub returns-clause-ticks : goal.returns-clause-ticks
returns-clause-ticks g c =
    let k : CourseTold = c.args.course.now in
    let started = c.in-Ok.ensures.state ∙ ap (λ (x : Segment). started_from k.opening k.plan x.branch (Some c.args.parent)) c.segment-branch.ensures.value in
    let events = go-events k c.args.segment c.args.parent c.args.kernel c.go_on.new.kernel c.go_on.new.trace.list c.segment-branch.ensures.course c.requires.segment c.requires.parent c.requires.end started in
    subst (λ (n : ℕ). IfOk c.arrive.result (λ a. c.arrive.new.steps + n ≡ c.args.steps.now + a.kernel.events)) events c.arrive.ensures.ticks

pub returns-clause-most : goal.returns-clause-most
returns-clause-most g c =
    let k : CourseTold = c.args.course.now in
    let started = c.in-Ok.ensures.state ∙ ap (λ (x : Segment). started_from k.opening k.plan x.branch (Some c.args.parent)) c.segment-branch.ensures.value in
    omega (arith, c.arrive.ensures.most, go-events k c.args.segment c.args.parent c.args.kernel c.go_on.new.kernel c.go_on.new.trace.list c.segment-branch.ensures.course c.requires.segment c.requires.parent c.requires.end started)
