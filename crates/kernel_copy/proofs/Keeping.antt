-- What a course knows of its segments.
use Rattle.std.proofs.Common.{◌≡◌, ℕ, ◌+◌, ◌-◌, ◌<◌, inl, Some, length, get_or, refl, sym, ap, ◌∙◌, arith, suc, zero, subst}
use Rattle.branch_tree.specs.declared.segment.Segment.{Segment}
use Rattle.branch_tree.specs.Plan.{Plan}
use Rattle.branch_tree.specs.Segments.{counted, numbers_of, cuts_of, count_before, last_of, segments_in, segment_at}
use Rattle.kernel_copy.specs.Segmentwise.{segment_end, fork_number, after}
use Rattle.kernel_copy.specs.Courses.{CourseTold, IsCourse, IsKeyOf, GoesOnFrom}
use Rattle.kernel_copy.proofs.Trees.{course-tree}
use Rattle.branch_tree.specs.Stops.{IsWithin}
use Rattle.kernel_copy.proofs.Afters.{after-end}
use Rattle.kernel_copy.proofs.Walks.{planned-at, has_parent}

length-counted : (k n : ℕ) → length (counted k n) ≡ n
length-counted k zero = refl
length-counted k (suc n) = omega (arith, length-counted (k + 1) n)

counted-at : (k n i d : ℕ) → i < n → get_or (counted k n) i d ≡ k + i
counted-at k zero i d h = absurd (omega arith)
counted-at k (suc n) zero d h = omega arith
counted-at k (suc n) (suc i) d h = omega (arith, counted-at (k + 1) n i d (omega arith))

-- the last number of a branch's segments
pub last-number : (p : Plan) (b d : ℕ) → get_or (numbers_of p b) (length (numbers_of p b) - 1) d ≡ last_of p.branches b
last-number p b d =
    let n = length (cuts_of p.branches b) in
    let k = count_before p.branches b in
    ap (λ (i : ℕ). get_or (counted k (n + 1)) (i - 1) d) (length-counted k (n + 1)) ∙ counted-at k (n + 1) (n + 1 - 1) d (omega arith) ∙ omega arith

-- a segment's end is the course's state at its key
pub end-key : (c : CourseTold) (s : ℕ) → s < length (segments_in c.plan) → IsKeyOf c (record { segment = s; event = fork_number (segment_at c.plan s).stop })
end-key c s l = record { segment = l; event = inl refl }

pub end-state : (c : CourseTold) (s : ℕ) → (segment_end c.opening c.plan (segment_at c.plan s)).state ≡ after c.opening c.plan (segment_at c.plan s) (fork_number (segment_at c.plan s).stop)
end-state c s = sym (after-end c.opening c.plan (segment_at c.plan s))

-- a segment's branch, its stop, and the segment from which it goes on
pub segment-facts : (k : CourseTold) (s : ℕ) (g : Segment) → IsCourse k → s < length (segments_in k.plan) → g ≡ segment_at k.plan s
    → (g.branch < length k.plan.branches) × IsWithin k.opening.limit g.stop × ((q : ℕ) → g.parent ≡ Some q → GoesOnFrom k.plan s q)
segment-facts k s g h l e =
    let p = planned-at k.plan s (course-tree k h) l in (
      subst (λ (x : Segment). x.branch < length k.plan.branches) (sym e) p.branch,
      subst (λ (x : Segment). IsWithin k.opening.limit x.stop) (sym e) (subst (λ (n : ℕ). IsWithin n (segment_at k.plan s).stop) h.limit p.within),
      λ q is. let n = has_parent k.plan s q (course-tree k h) l (sym (ap (λ (x : Segment). x.parent) e) ∙ is) in record { earlier = n.earlier; unfinished = n.unfinished },
    )
