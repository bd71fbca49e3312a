-- Tallies of segments' own entries, and of a bundle.
use Rattle.std.proofs.Common.{◌≡◌, ℕ, ◌+◌, ◌^◌, ◌≤◌, inl, inr, List, [], ◌∷◌, ◌++◌, length, get_or, sym, subst, arith}
use Rattle.std.proofs.lemmas.Bool.{cases_lt}
use Rattle.std.proofs.lemmas.List.{get_or_append_left, get_or_push, length_push}
use Rattle.std.proofs.lemmas.Nat.{mul-le}
use Rattle.branch_tree.specs.Segments.{segments_in}
use Rattle.branch_tree.proofs.CutLemmas.{count-few}
use Rattle.branch_tree.proofs.PartLemmas.{length-before}
use Rattle.kernel_copy.specs.Courses.{CourseTold, IsCourse}
use Rattle.kernel_copy.specs.Kept.{KeptTold}
use Rattle.kernel_copy.proofs.Trees.{course-few}
use Rattle.trace_bundle.specs.Bundle.{bundle_of}
use Rattle.trace_bundle.specs.Report.{bundle_size, byte_sum}
use Rattle.kernel_copy.specs.Tallies.{IsTallyOf, no_tally}
use Rattle.trace_bundle.specs.Tallied.{AreOwn, AreTalliesOf, IsOwnTally, IsWith, own_frames, parts_of_bundle}
use Rattle.kernel_copy.specs.declared.tally.Tally.{Tally}

-- one segment more
pub tallies-more : (c : CourseTold) (n : ℕ) (ts : List Tally) (t : Tally) → AreTalliesOf c n ts → IsTallyOf t (own_frames c n) 1 → AreTalliesOf c (n + 1) (ts ++ t ∷ [])
tallies-more c n ts t are is = record {
  all = omega (arith, length_push ts t, are.all);
  each = λ s l. elim (cases_lt s n) [
    | inl less ↦ subst (λ (u : Tally). IsTallyOf u (own_frames c s) 1) (sym (get_or_append_left ts (t ∷ []) no_tally s (omega (arith, less, are.all)))) (are.each s less)
    | inr more ↦
        let same : n ≡ s = omega (arith, l, more) in
        subst (λ (k : ℕ). IsTallyOf (get_or (ts ++ t ∷ []) k no_tally) (own_frames c k) 1) same
        (subst (λ (u : Tally). IsTallyOf u (own_frames c n) 1) (sym (get_or_push ts t no_tally n are.all)) is)
  ];
}

-- the tallies of all segments stand for them
pub tallies-own : (c : CourseTold) (kept_of : ℕ → KeptTold) (ts : List Tally) → AreTalliesOf c (length (segments_in c.plan)) ts → AreOwn (λ s kept bytes. IsOwnTally ts s bytes) c kept_of
tallies-own c kept_of ts are = λ s l. record { there = omega (arith, l, are.all); tally = are.each s l }

-- a bundle has few parts
parts-few : (c : CourseTold) → IsCourse c → parts_of_bundle c ≤ 2 ^ 30
parts-few c course =
    let bs = c.plan.branches in
    let segments : length (segments_in c.plan) ≤ 65792 =
    omega (arith, length-before bs c.plan.limit (length bs), count-few bs (length bs) (course-few c course), course-few c course) in
    omega (arith, mul-le (length bs) (length (segments_in c.plan) + 2) 256 65794 (omega (arith, course-few c course)) (omega (arith, segments)))

-- the tally of all parts
pub bundle-tally : (c : CourseTold) (t u : Tally) → IsCourse c → IsTallyOf t [] 0 → IsWith t u (bundle_of c) (parts_of_bundle c) → IsTallyOf u (bundle_of c) (0 + parts_of_bundle c)
bundle-tally c t u course is with = with.behind [] 0 (omega (arith, parts-few c course)) is

pub bundle-count : (c : CourseTold) (t u : Tally) → IsCourse c → IsTallyOf t [] 0 → IsWith t u (bundle_of c) (parts_of_bundle c) → u.count ≡ bundle_size c
unfolding bundle_size
bundle-count c t u course is with = (bundle-tally c t u course is with).count

pub bundle-total : (c : CourseTold) (t u : Tally) → IsCourse c → IsTallyOf t [] 0 → IsWith t u (bundle_of c) (parts_of_bundle c) → u.total ≡ byte_sum c
unfolding byte_sum
bundle-total c t u course is with = (bundle-tally c t u course is with).total
