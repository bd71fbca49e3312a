use Rattle.std.proofs.Common.{ℕ, List, length, sym, ap, ◌∙◌, subst}
use Rattle.branch_tree.specs.Plan.{Plan}
use Rattle.branch_tree.specs.Planned.{IsTree}
use Rattle.branch_tree.specs.declared.segment.Segment.{Segment}
use Rattle.branch_tree.specs.Segments.{segments_in}
use Rattle.shelf_core.specs.declared.plan.Key.{Key}
use Rattle.shelf_core.specs.declared.plan.ShelfPlan.{ShelfPlan}
use Rattle.checkpoint_shelf.specs.Plans.{PlanFits}
use Rattle.kernel_copy.specs.Courses.{CourseTold}
use Rattle.kernel_copy.proofs.Trees.{course-tree}
use Rattle.branch_workers.specs.Layout.{fork_keys, grid_keys}
use Rattle.branch_workers.proofs.Layouts.{layout_fits}
use Rattle.branch_workers.proofs.layout.shelf_plan.Goals as goal

pub forks-requires : goal.forks-requires
forks-requires c =
    record { tree = subst (λ (p : Plan). IsTree p.branches p.limit) (sym c.plan-plan.ensures.value) (course-tree c.args.course.now c.plan-plan.ensures.course) }

pub grid-requires-clause-tree : goal.grid-requires-clause-tree
grid-requires-clause-tree c =
    subst (λ (p : Plan). IsTree p.branches p.limit) (sym c.plan-plan.ensures.value) (course-tree c.args.course.now c.plan-plan.ensures.course)

pub returns-clause-fits : goal.returns-clause-fits
returns-clause-fits c =
    let k : CourseTold = c.args.course.now in
    let stride = c.args.stride in
    let places = c.args.places in
    let segments = ap (λ (xs : List Segment). length xs) (c.segments.ensures.value ∙ ap (λ (p : Plan). segments_in p) c.plan-plan.ensures.value) in
    let forks = c.in-Ok.ensures ∙ ap (λ (p : Plan). fork_keys p) c.plan-plan.ensures.value in
    let grid = c.in-Ok-grid.ensures ∙ ap (λ (p : Plan). grid_keys p stride) c.plan-plan.ensures.value in
    let one = ap (λ (n : ℕ). let p : ShelfPlan = record { segments = n; forks = c.in-Ok.forks; grid = c.in-Ok-grid.grid; places = places } in p) segments in
    let two = ap (λ (keys : List Key). let p : ShelfPlan = record { segments = length (segments_in k.plan); forks = keys; grid = c.in-Ok-grid.grid; places = places } in p) forks in
    let three = ap (λ (keys : List Key). let p : ShelfPlan = record { segments = length (segments_in k.plan); forks = fork_keys k.plan; grid = keys; places = places } in p) grid in
    subst PlanFits (sym (one ∙ two ∙ three)) (layout_fits k stride places c.plan-plan.ensures.course c.requires.places)
