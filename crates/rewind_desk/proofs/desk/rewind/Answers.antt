use Rattle.std.proofs.Common.{◌≡◌, ◌<◌, List, length, ap, ◌∙◌, arith, subst, ◌≤◌, inr}
use Rattle.branch_tree.specs.declared.branch.Branch.{Branch}
use Rattle.branch_tree.specs.Plan.{Plan}
use Rattle.kernel_copy.specs.Courses.{CourseTold, IsCourse}
use Rattle.rewind_desk.specs.Rewinds.{last_event}
use Rattle.rewind_desk.proofs.Lasts.{past-rose}
use Rattle.rewind_desk.proofs.Refusals.{refused-branch, refused-event, not-refused}
use Rattle.rewind_desk.proofs.desk.rewind.Goals as goal

pub returns-then-events-event-clause-past : goal.returns-then-events-event-clause-past
returns-then-events-event-clause-past g c = λ same.
    let k : CourseTold = c.args.course.now.value in
    let b = c.args.branch in
    let kernel = c.in-Ok.rewound.kernel in
    let course = subst (λ (x : CourseTold). IsCourse x) c.deref.ensures c.plan.ensures.course in
    let branches : c.branches.result.now ≡ k.plan.branches = c.branches.ensures.value ∙ ap (λ (p : Plan). p.branches) (c.plan.ensures.value ∙ ap (λ (x : CourseTold). x.plan) c.deref.ensures) in
    let count = ap (λ (bs : List Branch). length bs) branches in
    let under : b < length k.plan.branches = omega (arith, count, c.from.ensures, c.if-from-branches.false) in
    let less : kernel.events < c.args.event = omega (arith, c.if-events-event.true, c.events-events.ensures) in
    let whole : kernel.events ≡ last_event k b = c.in-Ok.ensures.whole less ∙ ap (λ (x : CourseTold). last_event x b) c.deref-2.ensures in
    past-rose c.args.shelf.now k b c.args.event c.in-Ok.rewound.from c.args.steps.now c.reached.new.steps kernel.events c.requires.shelf course c.reached.ensures.keys under less whole c.in-Ok.ensures.from c.in-Ok.ensures.ticks

pub returns-then-events-event-clause-refused : goal.returns-then-events-event-clause-refused
returns-then-events-event-clause-refused g c =
    let k : CourseTold = c.args.course.now.value in
    let b = c.args.branch in
    let kernel = c.in-Ok.rewound.kernel in
    let branches : c.branches.result.now ≡ k.plan.branches = c.branches.ensures.value ∙ ap (λ (p : Plan). p.branches) (c.plan.ensures.value ∙ ap (λ (x : CourseTold). x.plan) c.deref.ensures) in
    let count = ap (λ (bs : List Branch). length bs) branches in
    let under : b < length k.plan.branches = omega (arith, count, c.from.ensures, c.if-from-branches.false) in
    let less : kernel.events < c.args.event = omega (arith, c.if-events-event.true, c.events-events.ensures) in
    let whole : c.events-events.result ≡ last_event k b = c.events-events.ensures ∙ c.in-Ok.ensures.whole less ∙ ap (λ (x : CourseTold). last_event x b) c.deref-2.ensures in
    inr (refused-event k b c.args.event c.events-events.result under whole c.if-events-event.true)

pub returns-else-events-event-clause-made : goal.returns-else-events-event-clause-made
returns-else-events-event-clause-made g c =
    let k : CourseTold = c.args.course.now.value in
    let b = c.args.branch in
    let branches : c.branches.result.now ≡ k.plan.branches = c.branches.ensures.value ∙ ap (λ (p : Plan). p.branches) (c.plan.ensures.value ∙ ap (λ (x : CourseTold). x.plan) c.deref.ensures) in
    let count = ap (λ (bs : List Branch). length bs) branches in
    let under : b < length k.plan.branches = omega (arith, count, c.from.ensures, c.if-from-branches.false) in
    let reached : c.args.event ≤ c.in-Ok.rewound.kernel.events = omega (arith, c.if-events-event.false, c.events-events.ensures) in
    not-refused k b c.args.event under (subst (λ (x : CourseTold). c.args.event ≤ last_event x b) c.deref-2.ensures (c.in-Ok.ensures.exists reached))

pub returns-then-from-branches-clause-refused : goal.returns-then-from-branches-clause-refused
returns-then-from-branches-clause-refused g c =
    let k : CourseTold = c.args.course.now.value in
    let branches : c.branches.result.now ≡ k.plan.branches = c.branches.ensures.value ∙ ap (λ (p : Plan). p.branches) (c.plan.ensures.value ∙ ap (λ (x : CourseTold). x.plan) c.deref.ensures) in
    let count = ap (λ (bs : List Branch). length bs) branches in
    inr (refused-branch k c.args.branch c.args.event (omega (arith, count, c.from.ensures, c.if-from-branches.true)))

pub returns-else-events-event-clause-rose : goal.returns-else-events-event-clause-rose
returns-else-events-event-clause-rose g c =
    omega (arith, c.if-events-event.false, c.events-events.ensures, c.in-Ok.ensures.ticks, c.in-Ok.ensures.from, c.in-Ok.ensures.within)
