use Rattle.std.proofs.Common.{◌≡◌, ◌<◌, ◌≤◌, ℕ, List, ap, sym, ◌∙◌, subst, arith}
use Rattle.branch_tree.specs.Segments.{segment_at}
use Rattle.shelf_core.specs.Views.{times}
use Rattle.market_floor.specs.declared.opening.Opening.{Opening}
use Rattle.kernel_core.specs.Until.{Run}
use Rattle.kernel_copy.specs.Courses.{CourseTold, IsCourse}
use Rattle.kernel_copy.specs.Kept.{KeptTold, kept_told}
use Rattle.kernel_copy.specs.Ran.{RanTold, ran_told, ran_as}
use Rattle.kernel_copy.specs.UntilStop.{until_part}
use Rattle.kernel_copy.proofs.Trees.{course-tree}
use Rattle.kernel_copy.proofs.Walks.{own-is}
use Rattle.shelf_core.proofs.Staying.{stays_then}
use Rattle.kernel_core.specs.State.{State}
use Rattle.kernel_core.specs.Step.{Fits}
use Rattle.branch_workers.specs.Layout.{end_key}
use Rattle.branch_workers.specs.Runs.{IsUnderway, run_at_end, run_at_start}
use Rattle.branch_workers.proofs.Underway.{begins, first_events, runs_whole}
use Rattle.branch_workers.proofs.segment.advance.Goals as goal

pub pass_grid-requires-clause-underway : goal.pass_grid-requires-clause-underway
pass_grid-requires-clause-underway g c =
    let k : CourseTold = c.args.shift.now.course.now.value in
    let keep = c.args.shift.now.keep in
    let r : Run = record { state = c.in-Ok.kernel; entries = c.kernel_at_start.new.trace.list } in
    let first : RanTold = record { state = c.in-Ok.kernel; kept = kept_told c.in-Ok-of.kept } in
    let told : first ≡ ran_as keep r = ap (λ (x : KeptTold). let y : RanTold = record { state = c.in-Ok.kernel; kept = x } in y) c.in-Ok-of.ensures in
    begins k keep c.args.segment first r told c.in-Ok.ensures.state c.in-Ok.ensures.fits

pub pass_grid-requires-clause-begins : goal.pass_grid-requires-clause-begins
pass_grid-requires-clause-begins g c =
    let k : CourseTold = c.args.shift.now.course.now.value in
    ap (λ (r : Run). r.state.events) c.in-Ok.ensures.state ∙ first_events k c.args.segment (subst IsCourse c.deref.ensures c.know_course.ensures) c.requires.segment

pub continue_to-requires-clause-most : goal.continue_to-requires-clause-most
continue_to-requires-clause-most g c =
    let most = ap (λ (o : Opening). o.limit) c.opening.ensures.value ∙ ap (λ (x : CourseTold). x.opening.limit) c.deref-2.ensures in omega arith

pub continue_to-requires-clause-underway : goal.continue_to-requires-clause-underway
continue_to-requires-clause-underway g c =
    let k : CourseTold = c.args.shift.now.course.now.value in
    let most = ap (λ (o : Opening). o.limit) c.opening.ensures.value ∙ ap (λ (x : CourseTold). x.opening.limit) c.deref-2.ensures in
    subst (λ (m : ℕ). IsUnderway k c.args.shift.now.keep c.args.segment m (ran_told c.pass_grid.new.ran)) (sym most) c.in-Ok-pass_grid.ensures.underway

pub returns-in_default-pass_grid-clause-most : goal.returns-in_default-pass_grid-clause-most
returns-in_default-pass_grid-clause-most g c =
    let k : CourseTold = c.args.shift.now.course.now.value in
    let first = ap (λ (r : Run). r.state.events) c.in-Ok.ensures.state in
    let course : IsCourse k = subst IsCourse c.deref.ensures c.know_course.ensures in
    let own = own-is k.opening k.plan c.args.segment (course-tree k course) course.limit c.requires.segment in
    omega (arith, c.pass_grid.ensures.few, c.pass_grid.ensures.ticks)

pub returns-in_default-continue_to-clause-most : goal.returns-in_default-continue_to-clause-most
returns-in_default-continue_to-clause-most g c =
    let k : CourseTold = c.args.shift.now.course.now.value in
    let first = ap (λ (r : Run). r.state.events) c.in-Ok.ensures.state in
    let course : IsCourse k = subst IsCourse c.deref.ensures c.know_course.ensures in
    let own = own-is k.opening k.plan c.args.segment (course-tree k course) course.limit c.requires.segment in
    omega (arith, c.continue_to.ensures.few, c.pass_grid.ensures.ticks, c.continue_to.ensures.ticks)

pub returns-clause-ran : goal.returns-clause-ran
returns-clause-ran g c =
    let k : CourseTold = c.args.shift.now.course.now.value in
    let keep = c.args.shift.now.keep in
    let s = c.args.segment in
    let course : IsCourse k = subst IsCourse c.deref.ensures c.know_course.ensures in
    let most = ap (λ (o : Opening). o.limit) c.opening.ensures.value ∙ ap (λ (x : CourseTold). x.opening.limit) c.deref-2.ensures in
    c.in-Ok-continue_to.ensures.ran
    ∙ ap (λ (m : ℕ). ran_as keep (until_part k.opening (segment_at k.plan s).stop m (run_at_start k s))) most
    ∙ ap (λ (r : Run). ran_as keep r) (runs_whole k s course c.requires.segment)

pub returns-clause-rose : goal.returns-clause-rose
returns-clause-rose g c =
    let k : CourseTold = c.args.shift.now.course.now.value in
    let keep = c.args.shift.now.keep in
    let s = c.args.segment in
    let first = ap (λ (r : Run). r.state.events) c.in-Ok.ensures.state in
    let course : IsCourse k = subst IsCourse c.deref.ensures c.know_course.ensures in
    let most = ap (λ (o : Opening). o.limit) c.opening.ensures.value ∙ ap (λ (x : CourseTold). x.opening.limit) c.deref-2.ensures in
    let last = ap (λ (x : RanTold). x.state.events)
    (c.in-Ok-continue_to.ensures.ran
    ∙ ap (λ (m : ℕ). ran_as keep (until_part k.opening (segment_at k.plan s).stop m (run_at_start k s))) most
    ∙ ap (λ (r : Run). ran_as keep r) (runs_whole k s course c.requires.segment)) in
    let own = own-is k.opening k.plan s (course-tree k course) course.limit c.requires.segment in
    omega (arith, c.pass_grid.ensures.ticks, c.continue_to.ensures.ticks)

pub returns-clause-most : goal.returns-clause-most
returns-clause-most g c =
    let k : CourseTold = c.args.shift.now.course.now.value in
    let first = ap (λ (r : Run). r.state.events) c.in-Ok.ensures.state in
    let course : IsCourse k = subst IsCourse c.deref.ensures c.know_course.ensures in
    let own = own-is k.opening k.plan c.args.segment (course-tree k course) course.limit c.requires.segment in
    omega (arith, c.continue_to.ensures.few, c.pass_grid.ensures.ticks, c.continue_to.ensures.ticks)

pub returns-in_default-clause-stays : goal.returns-in_default-clause-stays
returns-in_default-clause-stays g c =
    c.kernel_at_start.ensures.stays

pub returns-in_default-of-clause-stays : goal.returns-in_default-of-clause-stays
returns-in_default-of-clause-stays g c =
    c.kernel_at_start.ensures.stays

pub returns-in_default-pass_grid-clause-stays : goal.returns-in_default-pass_grid-clause-stays
returns-in_default-pass_grid-clause-stays g c =
    stays_then c.args.seat.now.view c.kernel_at_start.new.seat.view c.pass_grid.new.seat.view c.kernel_at_start.ensures.stays c.pass_grid.ensures.stays

pub returns-in_default-continue_to-clause-stays : goal.returns-in_default-continue_to-clause-stays
returns-in_default-continue_to-clause-stays g c =
    stays_then c.args.seat.now.view c.kernel_at_start.new.seat.view c.pass_grid.new.seat.view c.kernel_at_start.ensures.stays c.pass_grid.ensures.stays

pub returns-clause-stays : goal.returns-clause-stays
returns-clause-stays g c =
    stays_then c.args.seat.now.view c.kernel_at_start.new.seat.view c.pass_grid.new.seat.view c.kernel_at_start.ensures.stays c.pass_grid.ensures.stays

pub returns-clause-found : goal.returns-clause-found
returns-clause-found g c = λ q is. c.pass_grid.ensures.stays.found (end_key c.args.shift.now.course.now.value.plan q) (c.in-Ok.ensures.found q is)

pub returns-clause-grid : goal.returns-clause-grid
returns-clause-grid g c = c.in-Ok-pass_grid.ensures.known

pub returns-clause-fits : goal.returns-clause-fits
returns-clause-fits g c =
    let u = c.in-Ok-continue_to.ensures.underway in
    subst (λ (s : State). Fits c.args.shift.now.course.now.value.opening s) (sym (ap (λ (x : RanTold). x.state) u.is)) u.fits

pub pass_grid-requires-clause-claim : goal.pass_grid-requires-clause-claim
pass_grid-requires-clause-claim g c = subst (λ (claims : List ℕ). 0 < times c.args.segment claims) (sym c.kernel_at_start.ensures.stays.claims) c.requires.claim

pub kernel_at_start-requires-clause-seat : goal.kernel_at_start-requires-clause-seat
kernel_at_start-requires-clause-seat g c = c.requires.seat

pub kernel_at_start-requires-clause-segment : goal.kernel_at_start-requires-clause-segment
kernel_at_start-requires-clause-segment g c = c.requires.segment

pub kernel_at_start-requires-clause-shelf : goal.kernel_at_start-requires-clause-shelf
kernel_at_start-requires-clause-shelf g c = c.requires.shelf

pub pass_grid-requires-clause-seat : goal.pass_grid-requires-clause-seat
pass_grid-requires-clause-seat g c = c.kernel_at_start.ensures.same ∙ c.requires.seat

pub pass_grid-requires-clause-segment : goal.pass_grid-requires-clause-segment
pass_grid-requires-clause-segment g c = c.requires.segment

pub pass_grid-requires-clause-shelf : goal.pass_grid-requires-clause-shelf
pass_grid-requires-clause-shelf g c = c.requires.shelf

pub pass_grid-requires-clause-turns : goal.pass_grid-requires-clause-turns
pass_grid-requires-clause-turns g c = c.kernel_at_start.ensures.turns ∙ c.requires.turns

pub pass_grid-requires-clause-count : goal.pass_grid-requires-clause-count
pass_grid-requires-clause-count g c = c.requires.count

pub continue_to-requires-clause-segment : goal.continue_to-requires-clause-segment
continue_to-requires-clause-segment g c = c.requires.segment

pub returns-clause-same : goal.returns-clause-same
returns-clause-same g c = c.pass_grid.ensures.same ∙ c.kernel_at_start.ensures.same

pub returns-clause-turns : goal.returns-clause-turns
returns-clause-turns g c = c.pass_grid.ensures.turns

pub returns-clause-least : goal.returns-clause-least
returns-clause-least g c = omega (arith, c.pass_grid.ensures.ticks, c.pass_grid.ensures.grows, c.continue_to.ensures.ticks, c.continue_to.ensures.grows)

pub returns-in_default-clause-same : goal.returns-in_default-clause-same
returns-in_default-clause-same g c = c.kernel_at_start.ensures.same

pub returns-in_default-clause-turns : goal.returns-in_default-clause-turns
returns-in_default-clause-turns g c = c.kernel_at_start.ensures.turns ∙ c.requires.turns

pub returns-in_default-of-clause-same : goal.returns-in_default-of-clause-same
returns-in_default-of-clause-same g c = c.kernel_at_start.ensures.same

pub returns-in_default-of-clause-turns : goal.returns-in_default-of-clause-turns
returns-in_default-of-clause-turns g c = c.kernel_at_start.ensures.turns ∙ c.requires.turns

pub returns-in_default-pass_grid-clause-same : goal.returns-in_default-pass_grid-clause-same
returns-in_default-pass_grid-clause-same g c = c.pass_grid.ensures.same ∙ c.kernel_at_start.ensures.same

pub returns-in_default-pass_grid-clause-turns : goal.returns-in_default-pass_grid-clause-turns
returns-in_default-pass_grid-clause-turns g c = c.pass_grid.ensures.turns

pub returns-in_default-pass_grid-clause-least : goal.returns-in_default-pass_grid-clause-least
returns-in_default-pass_grid-clause-least g c = omega (arith, c.pass_grid.ensures.ticks, c.pass_grid.ensures.grows)

pub returns-in_default-continue_to-clause-same : goal.returns-in_default-continue_to-clause-same
returns-in_default-continue_to-clause-same g c = c.pass_grid.ensures.same ∙ c.kernel_at_start.ensures.same

pub returns-in_default-continue_to-clause-turns : goal.returns-in_default-continue_to-clause-turns
returns-in_default-continue_to-clause-turns g c = c.pass_grid.ensures.turns

pub returns-in_default-continue_to-clause-least : goal.returns-in_default-continue_to-clause-least
returns-in_default-continue_to-clause-least g c = omega (arith, c.pass_grid.ensures.ticks, c.pass_grid.ensures.grows, c.continue_to.ensures.ticks, c.continue_to.ensures.grows)
