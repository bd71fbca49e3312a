-- The segments of a course, one more at a time.
use Rattle.std.proofs.Common.{◌≡◌, ℕ, ◌+◌, ◌*◌, ◌^◌, ◌<◌, ◌≤◌, List, [], ◌∷◌, sum_by, length, take, sym, ap, ◌∙◌, arith, suc, zero, add-one}
use Rattle.std.proofs.lemmas.List.{take_more, take_all}
use Rattle.std.proofs.lemmas.List.Sums.{sum_by-append}
use Rattle.bundle_frames.specs.declared.closing.Closing.{Closing}
use Rattle.branch_tree.specs.declared.segment.Segment.{Segment}
use Rattle.branch_tree.specs.Plan.{Plan}
use Rattle.branch_tree.specs.Segments.{segments_in, segment_at, no_segment}
use Rattle.market_floor.specs.declared.opening.Opening.{Opening}
use Rattle.kernel_core.specs.State.{State}
use Rattle.kernel_core.specs.Until.{Run}
use Rattle.kernel_copy.specs.Segmentwise.{segment_end, segment_run, own_count, own_before, distinct}
use Rattle.kernel_copy.specs.Courses.{CourseTold, IsCourse}
use Rattle.kernel_copy.specs.Closing.{closing_at}
use Rattle.kernel_copy.specs.declared.kept.Keep.{Keep}
use Rattle.kernel_copy.specs.Kept.{KeptTold}
use Rattle.kernel_copy.specs.Ran.{RanTold, ran_as}
use Rattle.kernel_copy.specs.Outcomes.{OutcomeTold, outcome_of}
use Rattle.kernel_copy.proofs.Trees.{course-tree}
use Rattle.kernel_copy.proofs.Walks.{segment-copy, segment-within}

-- one segment's events more
pub own-more : (o : Opening) (p : Plan) (n : ℕ) → n < length (segments_in p) → own_before o p (n + 1) ≡ own_before o p n + own_count o p (segment_at p n)
own-more o p n l =
    let own : Segment → ℕ = λ g. own_count o p g in
    let xs = segments_in p in
    ap (λ (ys : List Segment). sum_by own ys) (take_more xs n no_segment l)
    ∙ omega (arith, sum_by-append own (take n xs) (segment_at p n ∷ []))

-- those of all segments
pub own-all : (o : Opening) (p : Plan) (n : ℕ) → length (segments_in p) ≤ n → own_before o p n ≡ distinct o p
own-all o p n l = ap (λ (ys : List Segment). sum_by (λ (g : Segment). own_count o p g) ys) (take_all n (segments_in p) l)

-- a segment's own run ends with its end's state
pub ran-ends : (c : CourseTold) (k : Keep) (s : ℕ) (x : RanTold) → IsCourse c → s < length (segments_in c.plan) → x ≡ ran_as k (segment_run c.opening c.plan (segment_at c.plan s))
    → x.state ≡ (segment_end c.opening c.plan (segment_at c.plan s)).state
ran-ends c k s x h l e = ap (λ (y : RanTold). y.state) e ∙ sym (ap (λ (q : Run). q.state) (segment-copy c.opening c.plan s (course-tree c h) h.limit l))

told-by : (a b m n : ℕ) (xs ys : KeptTold) (u v : Closing) → a ≡ b → xs ≡ ys → m ≡ n → u ≡ v
    → ◌≡◌ {A = OutcomeTold} (record { segment = a; kept = xs; events = m; closing = u }) (record { segment = b; kept = ys; events = n; closing = v })
told-by a b m n xs ys u v p q r t =
    ap (λ (x : ℕ). let z : OutcomeTold = record { segment = x; kept = xs; events = m; closing = u } in z) p
    ∙ ap (λ (x : KeptTold). let z : OutcomeTold = record { segment = b; kept = x; events = m; closing = u } in z) q
    ∙ ap (λ (x : ℕ). let z : OutcomeTold = record { segment = b; kept = ys; events = x; closing = u } in z) r
    ∙ ap (λ (x : Closing). let z : OutcomeTold = record { segment = b; kept = ys; events = n; closing = x } in z) t

-- what a segment's own run leaves is its outcome
pub outcome-is : (c : CourseTold) (k : Keep) (s : ℕ) (x : RanTold) (a m : ℕ) (t : KeptTold) (u : Closing) → IsCourse c → s < length (segments_in c.plan)
    → x ≡ ran_as k (segment_run c.opening c.plan (segment_at c.plan s)) → a ≡ s → t ≡ x.kept → m ≡ x.state.events → u ≡ closing_at c.opening x.state
    → ◌≡◌ {A = OutcomeTold} (record { segment = a; kept = t; events = m; closing = u }) (outcome_of c k s)
outcome-is c k s x a m t u h l e number kept events closing =
    let ends = ran-ends c k s x h l e in
    told-by _ _ _ _ _ _ _ _ number (kept ∙ ap (λ (y : RanTold). y.kept) e) (events ∙ ap (λ (y : State). y.events) ends) (closing ∙ ap (λ (y : State). closing_at c.opening y) ends)

-- a segment has no more events of its own than a study may have
pub own-bound : (c : CourseTold) (s : ℕ) → IsCourse c → s < length (segments_in c.plan) → own_count c.opening c.plan (segment_at c.plan s) ≤ 1000000
own-bound c s h l = omega (arith, segment-within c.opening c.plan s (course-tree c h) h.limit l, h.opening.limit)

own-bound_before : (c : CourseTold) (n : ℕ) → IsCourse c → n ≤ length (segments_in c.plan) → own_before c.opening c.plan n ≤ n * 1000000
own-bound_before c zero h l = omega arith
own-bound_before c (suc n) h l =
    let more = own-more c.opening c.plan n (omega arith) in
    let same = ap (λ (m : ℕ). own_before c.opening c.plan m) (add-one n) in
    omega (arith, own-bound_before c n h (omega arith), own-bound c n h (omega arith))

-- so all segments together have few
pub distinct-bound : (c : CourseTold) → IsCourse c → length (segments_in c.plan) < 2 ^ 32 → distinct c.opening c.plan < 2 ^ 52
distinct-bound c h l =
    let n = length (segments_in c.plan) in
    omega (arith, own-bound_before c n h (omega arith), own-all c.opening c.plan n (omega arith))
