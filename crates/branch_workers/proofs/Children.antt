-- The segments that go on from a segment.
use Rattle.std.proofs.Common.{◌≡◌, ◌≢◌, ℕ, zero, suc, ◌+◌, ◌<◌, ◌≤◌, All, Bool, true, false, true≢false, List, [], ◌∷◌, ◌++◌, Option, None, Some, length, get_or, if◌then◌else◌, sym, refl, ap, ◌∙◌, subst, ⊎_elim, arith, length-append}
use Rattle.std.proofs.lemmas.List.Elements.{All-cons, All-nil, All-append}
use mathlib.Core.Logic.{dite}
use native.Mathlib.Decide.{ℕ_discrete}
use Rattle.branch_tree.specs.declared.segment.Segment.{Segment}
use Rattle.branch_tree.specs.Plan.{Plan}
use Rattle.branch_tree.specs.Segments.{segments_in, segment_at, no_segment, is_child, children_from, children_of}
use Rattle.shelf_core.specs.Views.{times}
use Rattle.shelf_core.proofs.Lists.{times_here, times_else, times_append}
use Rattle.branch_workers.specs.Claims.{AreClaims, HasPushed, pushes}
use Rattle.branch_workers.proofs.Sums.{at_most}

abbrev with_number : Bool → ℕ → List ℕ → List ℕ
with_number b k xs = if b then k ∷ xs else xs

abbrev as_count : Bool → ℕ
as_count b = if b then 1 else 0

none_earlier : (s k x : ℕ) (gs : List Segment) → x < k → times x (children_from s k gs) ≡ 0
none_earlier s k x [] h = refl
none_earlier s k x (g ∷ gs) h = more (is_child s g.parent) (none_earlier s (k + 1) x gs (omega arith))
  where
    more : (b : Bool) → times x (children_from s (k + 1) gs) ≡ 0 → times x (with_number b k (children_from s (k + 1) gs)) ≡ 0
    more false e = e
    more true e = times_else x k (children_from s (k + 1) gs) (λ (z : k ≡ x). omega arith) ∙ e

-- a segment stands once among those that go on from its parent, and nowhere else
child_times : (s k x i : ℕ) (gs : List Segment) → x ≡ k + i → i < length gs → times x (children_from s k gs) ≡ as_count (is_child s (get_or gs i no_segment).parent)
child_times s k x i [] at l = absurd (omega arith)
child_times s k x zero (g ∷ gs) at l =
    let e : k ≡ x = omega arith in
    subst (λ (n : ℕ). times x (children_from s n (g ∷ gs)) ≡ as_count (is_child s g.parent)) (sym e) (more (is_child s g.parent) (none_earlier s (x + 1) x gs (omega arith)))
  where
    more : (b : Bool) → times x (children_from s (x + 1) gs) ≡ 0 → times x (with_number b x (children_from s (x + 1) gs)) ≡ as_count b
    more false e = e
    more true e = times_here x (children_from s (x + 1) gs) ∙ ap suc e
child_times s k x (suc i) (g ∷ gs) at l = more (is_child s g.parent) (child_times s (k + 1) x i gs (omega arith) (omega arith))
  where
    more : (b : Bool) → times x (children_from s (k + 1) gs) ≡ as_count (is_child s (get_or gs i no_segment).parent) → times x (with_number b k (children_from s (k + 1) gs)) ≡ as_count (is_child s (get_or gs i no_segment).parent)
    more false e = e
    more true e = times_else x k (children_from s (k + 1) gs) (λ (z : k ≡ x). omega arith) ∙ e

children_below : (s n k : ℕ) (gs : List Segment) → k + length gs ≤ n → All (λ x. x < n) (children_from s k gs)
children_below s n k [] h = All-nil (λ x. x < n)
children_below s n k (g ∷ gs) h = more (is_child s g.parent) (children_below s n (k + 1) gs (omega arith))
  where
    more : (b : Bool) → All (λ x. x < n) (children_from s (k + 1) gs) → All (λ x. x < n) (with_number b k (children_from s (k + 1) gs))
    more false e = e
    more true e = All-cons (λ x. x < n) k (children_from s (k + 1) gs) (omega arith) e

pub are_below : (p : Plan) (s : ℕ) → All (λ x. x < length (segments_in p)) (children_of p s)
are_below p s = children_below s (length (segments_in p)) 0 (segments_in p) (omega arith)

count_most : (b : Bool) → as_count b ≤ 1
count_most true = omega arith
count_most false = omega arith

-- What a worker may push once it claimed one segment more.
pub pushed_more : (p : Plan) (claims pushed : List ℕ) (s : ℕ) → times s claims ≡ 0 → HasPushed p claims pushed → HasPushed p (claims ++ s ∷ []) (pushed ++ children_of p s)
pushed_more p claims pushed s new h = record {
  below = All-append (λ x. x < length (segments_in p)) pushed (children_of p s) h.below (are_below p s);
  few = λ x l. let t = times_append x pushed (children_of p s) in let c = child_times s 0 x x (segments_in p) (omega arith) l in let f = h.few x l in
      at (segment_at p x).parent (times x pushed) (times x (children_of p s)) (times x (pushed ++ children_of p s)) t c f;
}
  where
    at : (parent : Option ℕ) (old more all : ℕ) → all ≡ old + more → more ≡ as_count (is_child s parent) → old ≤ pushes parent claims → all ≤ pushes parent (claims ++ s ∷ [])
    at None old more all sum child few = omega arith
    at (Some q) old more all sum child few =
        let a = times_append q claims (s ∷ []) in
        dite (ℕ_discrete q s)
        (λ (one : q ≡ s).
        let z : times q claims ≡ 0 = ap (λ (y : ℕ). times y claims) one ∙ new in
        let y : times q (s ∷ []) ≡ 1 = ap (λ (w : ℕ). times w (s ∷ [])) one ∙ times_here s [] in
        let m = count_most (is_child s (Some q)) in omega arith)
        (λ (ne : q ≢ s).
        let z : more ≡ 0 = child ∙ ap as_count (Rattle.std.proofs.Common.ne_eqb q s ne) in omega arith)

-- There are at most as many as segments.
pub pushed_few : (p : Plan) (claims pushed : List ℕ) → AreClaims p claims → HasPushed p claims pushed → length pushed ≤ length (segments_in p)
pushed_few p claims pushed c h = at_most (length (segments_in p)) pushed h.below (λ s l. let f = h.few s l in at (segment_at p s).parent (times s pushed) f)
  where
    at : (parent : Option ℕ) (n : ℕ) → n ≤ pushes parent claims → n ≤ 1
    at None n f = f
    at (Some q) n f = let o = c.once q in omega arith
