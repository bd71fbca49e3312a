-- States of segments are states of their branches' full runs.
use Rattle.std.proofs.Common.{ℕ, ◌<◌, true, false, length, refl, ap}
use Rattle.std.specs.Prelude.{◌==◌, ◌||◌, if◌then◌else◌}
use Rattle.branch_tree.specs.declared.segment.Segment.{Segment}
use Rattle.branch_tree.specs.Plan.{Plan}
use Rattle.branch_tree.specs.Segments.{segment_at, segments_in}
use Rattle.market_floor.specs.declared.opening.Opening.{Opening}
use Rattle.kernel_core.specs.Until.{Run}
use Rattle.kernel_copy.specs.Courses.{CourseTold, IsCourse}
use Rattle.kernel_copy.specs.Full.{full}
use Rattle.kernel_copy.specs.Segmentwise.{after, fork_number, is_past, segment_end}
use Rattle.kernel_copy.proofs.Trees.{course-tree}
use Rattle.kernel_copy.proofs.Walks.{planned-at, segment-ends}
use Rattle.market_laws.specs.Market.{IsStateOf}

after-is : (o : Opening) (p : Plan) (g : Segment) (e : ℕ) → IsStateOf o p g.branch (after o p g e)
after-is o p g e =
    let end = segment_end o p g in
    elim ((e == fork_number g.stop) || is_past end.state.events g.stop e) as (λ t. IsStateOf o p g.branch (if t then end.state else (full o p g.branch e).state)) [
      | true ↦ record { events = end.state.events; state = ap (λ (r : Run). r.state) (segment-ends o p g) }
      | false ↦ record { events = e; state = refl }
    ]

pub segment-state : (c : CourseTold) (s e : ℕ) → IsCourse c → s < length (segments_in c.plan) → IsStateOf c.opening c.plan (segment_at c.plan s).branch (after c.opening c.plan (segment_at c.plan s) e)
segment-state c s e h l = after-is c.opening c.plan (segment_at c.plan s) e

pub segment-branch : (c : CourseTold) (s : ℕ) → IsCourse c → s < length (segments_in c.plan) → (segment_at c.plan s).branch < length c.plan.branches
segment-branch c s h l = (planned-at c.plan s (course-tree c h) l).branch
