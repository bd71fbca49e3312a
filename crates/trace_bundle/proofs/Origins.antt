-- Where branches leave their parents.
use Rattle.std.proofs.Common.{◌≡◌, ℕ, zero, suc, ◌+◌, ◌-◌, ◌<◌, ◌≤◌, inl, inr, List, [], ◌∷◌, ◌++◌, Option, length, get_or, refl, ap, ◌∙◌, arith, subst}
use Rattle.std.proofs.lemmas.Bool.{cases_lt}
use Rattle.std.proofs.lemmas.List.{get_or_append_left, get_or-append-add}
use Rattle.branch_tree.specs.declared.branch.Branch.{Branch}
use Rattle.branch_tree.specs.declared.segment.Segment.{Segment}
use Rattle.branch_tree.specs.declared.stop.Stop.{Stop}
use Rattle.branch_tree.specs.declared.stop.Stop.TheVariants.{At, When}
use Rattle.branch_tree.specs.Stops.{IsWithin}
use Rattle.branch_tree.specs.Plan.{Plan, stop_at}
use Rattle.branch_tree.specs.Planned.{IsTree}
use Rattle.branch_tree.specs.Segments.{count_before, cuts_of, no_segment, numbers_of, origin_of, parts, segment_at, segments_before, segments_in, segments_of}
use Rattle.branch_tree.proofs.LayLemmas.{counted-at}
use Rattle.branch_tree.proofs.PartLemmas.{count-within, length-before}
use Rattle.market_floor.specs.declared.opening.Opening.{Opening}
use Rattle.kernel_core.specs.Until.{Run, advanced_by}
use Rattle.kernel_core.proofs.Times.{time-some}
use Rattle.kernel_copy.specs.UntilStop.{until_stop}
use Rattle.kernel_copy.specs.Segmentwise.{parent_end}
use Rattle.kernel_copy.specs.Courses.{CourseTold, IsCourse}
use Rattle.kernel_copy.proofs.Trees.{course-tree}
use Rattle.kernel_copy.proofs.Walks.{segment-grows, segment-within}
use Rattle.trace_bundle.specs.Bundle.{stop_written, written_stop}

first-part : (limit b number : ℕ) (parent : Option ℕ) (start : Stop) (cuts : List Stop) → (get_or (parts limit b number parent start cuts) 0 no_segment).parent ≡ parent
first-part limit b number parent start [] = refl
first-part limit b number parent start (c ∷ cs) = refl

first-before : (bs : List Branch) (limit b n : ℕ) → b < n → (get_or (segments_before bs limit n) (count_before bs b) no_segment).parent ≡ origin_of bs b
first-before bs limit b zero l = absurd (omega (arith, l))
first-before bs limit b (suc n) l =
    let xs = segments_before bs limit n in
    let ys = segments_of bs limit n in
    elim (cases_lt b n) [
      | inl less ↦
          let within = count-within bs b n 0 less (omega arith) in
          ap (λ (g : Segment). g.parent) (get_or_append_left xs ys no_segment (count_before bs b) (omega (arith, within, length-before bs limit n)))
          ∙ first-before bs limit b n less
      | inr more ↦
          let same : n ≡ b = omega (arith, l, more) in
          let at : count_before bs n ≡ length xs + 0 = omega (arith, length-before bs limit n) in
          subst (λ (m : ℕ). (get_or (xs ++ ys) (count_before bs m) no_segment).parent ≡ origin_of bs m) same
          (ap (λ (i : ℕ). (get_or (xs ++ ys) i no_segment).parent) at
          ∙ ap (λ (g : Segment). g.parent) (get_or-append-add xs ys 0 no_segment)
          ∙ first-part limit n (count_before bs n) (origin_of bs n) (stop_at bs n) (cuts_of bs n))
    ]

-- a branch's first segment goes on from the end that its branch does
pub first-parent : (p : Plan) (b : ℕ) → b < length p.branches → (segment_at p (count_before p.branches b)).parent ≡ origin_of p.branches b
first-parent p b l = first-before p.branches p.limit b (length p.branches) l

-- there is one
pub first-exists : (p : Plan) (b : ℕ) → b < length p.branches → count_before p.branches b < length (segments_in p)
first-exists p b l =
    omega (arith, count-within p.branches b (length p.branches) 0 l (omega arith), length-before p.branches p.limit (length p.branches))

-- it has the first of the branch's numbers
pub first-number : (p : Plan) (b d : ℕ) → get_or (numbers_of p b) 0 d ≡ count_before p.branches b
first-number p b d =
    counted-at (count_before p.branches b) (length (cuts_of p.branches b) + 1) 0 d (omega arith) ∙ omega arith

-- a run to a stop is one of so many events more
pub stop-some : (o : Opening) (s : Stop) (r : Run) → (k : ℕ) × (until_stop o s r ≡ advanced_by k o r)
stop-some o (At n) r = (n - r.state.events, refl)
stop-some o (When w) r = time-some (o.limit - r.state.events) o w r

-- what a branch goes on from stands within the limit of events
pub origin-within : (o : Opening) (p : Plan) (b : ℕ) → IsTree p.branches p.limit → p.limit ≡ o.limit → b < length p.branches → (parent_end o p (origin_of p.branches b)).state.events ≤ o.limit
origin-within o p b t lim l =
    let s = count_before p.branches b in
    let there = first-exists p b l in
    let same = ap (λ (x : Option ℕ). (parent_end o p x).state.events) (first-parent p b l) in
    omega (arith, same, segment-grows o p s t lim there, segment-within o p s t lim there)

within-written : (limit events : ℕ) (s : Stop) → IsWithin limit s → events ≤ limit → written_stop events s ≤ limit
within-written limit events (At n) w h = w
within-written limit events (When t) w h = h

-- and so does its stop as it is written
pub stop-within : (c : CourseTold) (b : ℕ) → IsCourse c → b < length c.plan.branches → stop_written c b ≤ c.opening.limit
stop-within c b is l =
    let t = course-tree c is in
    let s = stop_at c.plan.branches b in
    let events = (parent_end c.opening c.plan (origin_of c.plan.branches b)).state.events in
    within-written c.opening.limit events s (subst (λ (n : ℕ). IsWithin n s) is.limit (t.limits b l)) (origin-within c.opening c.plan b t is.limit l)
