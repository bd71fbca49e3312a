-- The shelf and the lanes of a course.
use Rattle.std.proofs.Common.{◌≡◌, ◌≢◌, ℕ, zero, suc, ◌<◌, ◌≤◌, All, [], ◌∷◌, Option, None, Some, length, refl, sym, subst, arith}
use Rattle.std.proofs.lemmas.List.Elements.{All-nil, All-cons, All-from_get_or}
use mathlib.Core.Logic.{dite}
use native.Mathlib.Decide.{ℕ_discrete}
use Rattle.branch_tree.specs.declared.segment.Segment.{Segment}
use Rattle.branch_tree.specs.declared.stop.Stop.{Stop}
use Rattle.branch_tree.specs.declared.stop.Stop.TheVariants.{At, When}
use Rattle.branch_tree.specs.Stops.{IsWithin}
use Rattle.branch_tree.specs.Plan.{Plan}
use Rattle.branch_tree.specs.Segments.{segments_in, segment_at, no_segment, count_before}
use Rattle.branch_tree.proofs.PartLemmas.{length-before}
use Rattle.shelf_core.specs.Views.{times}
use Rattle.shelf_core.proofs.Lists.{times_here, times_else}
use Rattle.checkpoint_shelf.specs.Plans.{PlanFits}
use Rattle.kernel_copy.specs.Courses.{CourseTold, IsCourse}
use Rattle.kernel_copy.specs.Segmentwise.{fork_number}
use Rattle.kernel_copy.proofs.Trees.{course-tree, course-few}
use Rattle.kernel_copy.proofs.Walks.{planned-at, has_parent}
use Rattle.branch_workers.specs.Layout.{stop_number, layout}
use Rattle.branch_workers.specs.Claims.{HasPushed, pushes}
use Rattle.branch_workers.proofs.Grids.{keys_distinct, grid_below, grids_rise}
use Rattle.branch_workers.proofs.Forks.{forks_rise, forks_distinct, forks_below, forks_few, segments_few}

-- the number of an end's key fits a key
fork_fits : (limit : ℕ) (stop : Stop) → limit < 16777216 → IsWithin limit stop → fork_number stop < 16777216
fork_fits limit (At n) few within = omega arith
fork_fits limit (When w) few within = omega arith

-- a segment's grid goes up to the limit of events at most
pub stop_few : (limit : ℕ) (stop : Stop) → IsWithin limit stop → stop_number limit stop ≤ limit
stop_few limit (At n) within = within
stop_few limit (When w) within = omega arith

-- a course's shelf can be laid out
pub layout_fits : (c : CourseTold) (stride places : ℕ) → IsCourse c → places ≤ 128 → PlanFits (layout c.plan stride places)
layout_fits c stride places h room =
    let few = segments_few c.plan (course-few c h) in
    let keys = forks_few c.plan 0 (segments_in c.plan) in
    let same = h.limit in let most = h.opening.limit in
    let limit : c.plan.limit < 16777216 = omega arith in
    let within : (i : ℕ) → i < length (segments_in c.plan) → IsWithin c.plan.limit (segment_at c.plan i).stop =
    (λ i l. (planned-at c.plan i (course-tree c h) l).within) in
    let stop : (i : ℕ) → i < length (segments_in c.plan) → stop_number c.plan.limit (segment_at c.plan i).stop < 16777216 =
    (λ i l. let w = stop_few c.plan.limit (segment_at c.plan i).stop (within i l) in omega arith) in
    let ends : All (λ (g : Segment). fork_number g.stop < 16777216) (segments_in c.plan) =
    All-from_get_or (λ (g : Segment). fork_number g.stop < 16777216) (segments_in c.plan) no_segment
    (λ i l. fork_fits c.plan.limit (segment_at c.plan i).stop limit (within i l)) in
    record {
      segments = omega arith;
      places = omega arith;
      distinct = keys_distinct c.plan stride (omega arith) (forks_distinct c.plan 0 (segments_in c.plan));
      forks = forks_below c.plan (length (segments_in c.plan)) 0 (segments_in c.plan) (omega arith) ends;
      grid = grid_below c.plan stride stop;
      forks_rise = forks_rise c.plan 0 (segments_in c.plan);
      grid_rise = grids_rise c.plan.limit stride 0 (segments_in c.plan);
    }

-- there is a segment
pub some_segment : (c : CourseTold) → IsCourse c → 0 < length (segments_in c.plan)
some_segment c h = let l = length-before c.plan.branches c.plan.limit (length c.plan.branches) in let s = some (length c.plan.branches) h.rooted.some in omega arith
  where
    some : (n : ℕ) → 0 < n → 0 < count_before c.plan.branches n
    some zero l = absurd (omega arith)
    some (suc n) l = omega arith

-- The lanes before the first segment is run: empty, or with the root's first segment.
pub pushed_none : (p : Plan) → HasPushed p [] []
pushed_none p = record { below = All-nil (λ s. s < length (segments_in p)); few = λ s l. omega arith }

pub pushed_first : (c : CourseTold) → IsCourse c → HasPushed c.plan [] (0 ∷ [])
pushed_first c h = record {
  below = All-cons (λ s. s < length (segments_in c.plan)) 0 [] (some_segment c h) (All-nil (λ s. s < length (segments_in c.plan)));
  few = λ s l. dite (ℕ_discrete s 0)
      (λ (one : s ≡ 0). subst (λ (t : ℕ). times t (0 ∷ []) ≤ pushes (segment_at c.plan t).parent []) (sym one) (first (segment_at c.plan 0).parent refl))
      (λ (ne : s ≢ 0). let z = times_else s 0 [] (λ e. ne (sym e)) in omega arith);
}
  where
    first : (parent : Option ℕ) → (segment_at c.plan 0).parent ≡ parent → times 0 (0 ∷ []) ≤ pushes parent []
    first None e = let t = times_here 0 [] in omega arith
    first (Some q) e = let n = (has_parent c.plan 0 q (course-tree c h) (some_segment c h) e).earlier in absurd (omega arith)
