-- Lists that grow by one.
use Rattle.std.proofs.Common.{◌≡◌, ℕ, ◌+◌, ◌-◌, ◌<◌, inl, inr, true, false, cond, Bool, List, [], ◌∷◌, ◌++◌, Option, Some, length, get_or, take, drop, refl, sym, ap, ◌∙◌, arith, suc, zero, add-one, append_assoc}
use Rattle.std.specs.List.{list_any}
use Rattle.std.proofs.lemmas.Bool.{cases_lt, ne_eqb}
use Rattle.std.proofs.lemmas.List.{get_or_append_left, get_or_push, at_drop_more, take_more, get_or_default}
use Rattle.branch_tree.specs.declared.branch.Branch.{Branch}
use Rattle.branch_tree.specs.declared.segment.Segment.{Segment}
use Rattle.branch_tree.specs.declared.stop.Stop.{Stop}
use Rattle.branch_tree.specs.declared.stop.Stop.TheVariants.{At}
use Rattle.branch_tree.specs.Plan.{no_branch, parent_at, stop_at}
use Rattle.branch_tree.specs.Tree.{same_name, repeated_from, mixes, mixed_from}
use Rattle.branch_tree.specs.Planned.{IsTree}
use Rattle.branch_tree.specs.Segments.{cuts_of, count_before, place_among, origin_of, parts, segments_before, counted, numbers_of}
use Rattle.branch_tree.proofs.CutLemmas.{cuts-place}

-- one item more of a list that a function gives
pub each_push : {X : Type 0} (f : ℕ → X) (xs : List X) (d x : X) (n : ℕ) → length xs ≡ n → ((k : ℕ) → k < n → get_or xs k d ≡ f k) → x ≡ f n → (k : ℕ) → k < n + 1 → get_or (xs ++ x ∷ []) k d ≡ f k
each_push f xs d x n l h e k b = elim (cases_lt k n) [
  | inl less ↦ get_or_append_left xs (x ∷ []) d k (omega arith) ∙ h k less
  | inr more ↦ let same : n ≡ k = omega arith in get_or_push xs x d k (l ∙ same) ∙ e ∙ ap f same
]

repeated-step : (bs : List Branch) (i : ℕ) → i < length bs → repeated_from (take i bs) i (drop i bs)
    ≡ cond (list_any (λ (a : Branch). same_name a (get_or bs i no_branch)) (take i bs)) (Some i) (repeated_from (take (i + 1) bs) (i + 1) (drop (i + 1) bs))
repeated-step bs i l =
    let b = get_or bs i no_branch in
    at_drop_more (repeated_from (take i bs) i) bs i no_branch l
    ∙ ap (λ (ts : List Branch). cond (list_any (λ (a : Branch). same_name a b) (take i bs)) (Some i) (repeated_from ts (i + 1) (drop (i + 1) bs))) (sym (take_more bs i no_branch l))

named_by : (bs before : List Branch) (i : ℕ) (b : Branch) (t : Bool) → i < length bs → before ≡ take i bs → b ≡ get_or bs i b → t ≡ list_any (λ (a : Branch). same_name a b) before
    → list_any (λ (a : Branch). same_name a (get_or bs i no_branch)) (take i bs) ≡ t
named_by bs before i b t l p at h =
    ap (λ (x : Branch). list_any (λ (a : Branch). same_name a x) (take i bs)) (sym (at ∙ get_or_default bs i b no_branch l))
    ∙ ap (λ (xs : List Branch). list_any (λ (a : Branch). same_name a b) xs) (sym p) ∙ sym h

-- a branch has the name of one before it
pub repeated-here : (bs before : List Branch) (i : ℕ) (b : Branch) → i < length bs → before ≡ take i bs → b ≡ get_or bs i b → true ≡ list_any (λ (a : Branch). same_name a b) before
    → repeated_from (take i bs) i (drop i bs) ≡ Some i
repeated-here bs before i b l p at h = repeated-step bs i l ∙ rw (named_by bs before i b true l p at h) refl

-- and where it hasn't
pub repeated-next : (bs before : List Branch) (i : ℕ) (b : Branch) → i < length bs → before ≡ take i bs → b ≡ get_or bs i b → false ≡ list_any (λ (a : Branch). same_name a b) before
    → repeated_from (take i bs) i (drop i bs) ≡ repeated_from (take (i + 1) bs) (i + 1) (drop (i + 1) bs)
repeated-next bs before i b l p at h = repeated-step bs i l ∙ rw (named_by bs before i b false l p at h) refl

mixed-step : (bs : List Branch) (k i : ℕ) → i < length bs → mixed_from (take i bs) k (drop i bs)
    ≡ cond (list_any (λ (a : Branch). mixes a (get_or bs i no_branch)) (take i bs)) (Some k) (mixed_from (take (i + 1) bs) (k + 1) (drop (i + 1) bs))
mixed-step bs k i l =
    let b = get_or bs i no_branch in
    at_drop_more (mixed_from (take i bs) k) bs i no_branch l
    ∙ ap (λ (ts : List Branch). cond (list_any (λ (a : Branch). mixes a b) (take i bs)) (Some k) (mixed_from ts (k + 1) (drop (i + 1) bs))) (sym (take_more bs i no_branch l))

mixed_by : (bs before : List Branch) (i : ℕ) (b : Branch) (t : Bool) → i < length bs → before ≡ take i bs → b ≡ get_or bs i b → t ≡ list_any (λ (a : Branch). mixes a b) before
    → list_any (λ (a : Branch). mixes a (get_or bs i no_branch)) (take i bs) ≡ t
mixed_by bs before i b t l p at h =
    ap (λ (x : Branch). list_any (λ (a : Branch). mixes a x) (take i bs)) (sym (at ∙ get_or_default bs i b no_branch l))
    ∙ ap (λ (xs : List Branch). list_any (λ (a : Branch). mixes a b) xs) (sym p) ∙ sym h

-- a branch leaves its parent at another kind of stop than one before it
pub mixed-here : (bs before : List Branch) (k i : ℕ) (b : Branch) → i < length bs → before ≡ take i bs → b ≡ get_or bs i b → true ≡ list_any (λ (a : Branch). mixes a b) before
    → mixed_from (take i bs) k (drop i bs) ≡ Some k
mixed-here bs before k i b l p at h = mixed-step bs k i l ∙ rw (mixed_by bs before i b true l p at h) refl

-- and where it doesn't
pub mixed-next : (bs before : List Branch) (k i : ℕ) (b : Branch) → i < length bs → before ≡ take i bs → b ≡ get_or bs i b → false ≡ list_any (λ (a : Branch). mixes a b) before
    → mixed_from (take i bs) k (drop i bs) ≡ mixed_from (take (i + 1) bs) (k + 1) (drop (i + 1) bs)
mixed-next bs before k i b l p at h = mixed-step bs k i l ∙ rw (mixed_by bs before i b false l p at h) refl

pub length-counted : (k n : ℕ) → length (counted k n) ≡ n
length-counted k zero = refl
length-counted k (suc n) = omega (arith, length-counted (k + 1) n)

pub counted-at : (k n i d : ℕ) → i < n → get_or (counted k n) i d ≡ k + i
counted-at k zero i d h = absurd (omega arith)
counted-at k (suc n) zero d h = omega arith
counted-at k (suc n) (suc i) d h = omega (arith, counted-at (k + 1) n i d (omega arith))

-- one number more
pub counted-more : (xs all : List ℕ) (k n i : ℕ) → i < n → xs ++ counted (k + i) (n - i) ≡ all → (xs ++ (k + i) ∷ []) ++ counted (k + (i + 1)) (n - (i + 1)) ≡ all
counted-more xs all k n i l h =
    let m = n - (i + 1) in
    let size : n - i ≡ suc m = omega arith in
    append_assoc xs ((k + i) ∷ []) (counted (k + (i + 1)) m)
    ∙ ap (λ (j : ℕ). xs ++ ((k + i) ∷ counted j m)) (omega arith)
    ∙ sym (ap (λ (j : ℕ). xs ++ counted (k + i) j) size) ∙ h

-- the number of the segment from which a branch goes on, read from the numbers of its parent's
pub fork-number : (bs : List Branch) (limit b place : ℕ) → IsTree bs limit → 0 < b → b < length bs → place ≡ place_among (stop_at bs b) (cuts_of bs (parent_at bs b))
    → ◌≡◌ {A = Option ℕ} (Some (get_or (numbers_of (record { branches = bs; limit = limit }) (parent_at bs b)) place 0)) (origin_of bs b)
fork-number bs limit b place t pos l e =
    let q = parent_at bs b in
    let there = cuts-place bs limit b (At 0) t pos l in
    rw (ne_eqb b 0 (omega arith)) (ap (λ (n : ℕ). Some n)
    (ap (λ (i : ℕ). get_or (counted (count_before bs q) (length (cuts_of bs q) + 1)) i 0) e ∙ counted-at (count_before bs q) (length (cuts_of bs q) + 1) (place_among (stop_at bs b) (cuts_of bs q)) 0 (omega (arith, there.0))))

-- one branch's segments more
pub segments-more : (bs : List Branch) (limit b n : ℕ) (xs : List Segment) (parent : Option ℕ) (stop : Stop) (cuts : List Stop)
    → xs ≡ segments_before bs limit b → n ≡ count_before bs b → parent ≡ origin_of bs b → stop ≡ stop_at bs b → cuts ≡ cuts_of bs b
    → xs ++ parts limit b n parent stop cuts ≡ segments_before bs limit (b + 1)
segments-more bs limit b n xs parent stop cuts ex en ep es ec =
    ap (λ (ys : List Segment). ys ++ parts limit b n parent stop cuts) ex
    ∙ ap (λ (m : ℕ). segments_before bs limit b ++ parts limit b m parent stop cuts) en
    ∙ ap (λ (o : Option ℕ). segments_before bs limit b ++ parts limit b (count_before bs b) o stop cuts) ep
    ∙ ap (λ (s : Stop). segments_before bs limit b ++ parts limit b (count_before bs b) (origin_of bs b) s cuts) es
    ∙ ap (λ (cs : List Stop). segments_before bs limit b ++ parts limit b (count_before bs b) (origin_of bs b) (stop_at bs b) cs) ec
    ∙ sym (ap (λ (m : ℕ). segments_before bs limit m) (add-one b))
