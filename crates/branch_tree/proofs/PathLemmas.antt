-- Paths of a tree of branches.
use Rattle.std.proofs.Common.{◌≡◌, ℕ, ◌<◌, ◌≤◌, inl, inr, List, [], ◌∷◌, ◌++◌, length, drop, refl, ap, ◌∙◌, arith, suc, zero, length-append}
use Rattle.std.proofs.lemmas.Bool.{cases_eq, eq-eqb, ne_eqb}
use Rattle.std.proofs.lemmas.List.{drop-append-le}
use Rattle.branch_tree.specs.declared.branch.Branch.{Branch}
use Rattle.branch_tree.specs.Plan.{parent_at}
use Rattle.branch_tree.specs.Paths.{path_within, path_of}
use Rattle.branch_tree.specs.Planned.{IsTree}

-- more steps than a branch's number give its path
path-enough : (n m : ℕ) (bs : List Branch) (limit b : ℕ) → IsTree bs limit → b < length bs → b ≤ n → b ≤ m → path_within n bs b ≡ path_within m bs b
path-enough zero zero bs limit b t l h k = refl
path-enough zero (suc m) bs limit b t l h k = let e : b ≡ 0 = omega arith in rw (eq-eqb b 0 e) refl
path-enough (suc n) zero bs limit b t l h k = let e : b ≡ 0 = omega arith in rw (eq-eqb b 0 e) refl
path-enough (suc n) (suc m) bs limit b t l h k = elim (cases_eq b 0) [
  | inl e ↦ rw (eq-eqb b 0 e) refl
  | inr other ↦
      let less = t.parents b (omega arith) l in
      rw (ne_eqb b 0 other) (ap (λ (xs : List ℕ). xs ++ b ∷ []) (path-enough n m bs limit (parent_at bs b) t (omega arith) (omega arith) (omega arith)))
]

-- any other's is its parent's and itself
pub path-more : (bs : List Branch) (limit b : ℕ) → IsTree bs limit → 0 < b → b < length bs → path_of bs b ≡ path_of bs (parent_at bs b) ++ b ∷ []
path-more bs limit zero t p l = absurd (omega arith)
path-more bs limit (suc b) t p l =
    let q = parent_at bs (suc b) in
    let less = t.parents (suc b) p l in
    rw (ne_eqb (suc b) 0 (omega arith)) (ap (λ (xs : List ℕ). xs ++ suc b ∷ []) (path-enough b q bs limit q t (omega arith) (omega arith) (omega arith)))

path-some : (n : ℕ) (bs : List Branch) (b : ℕ) → 1 ≤ length (path_within n bs b)
path-some zero bs b = omega arith
path-some (suc n) bs b = elim (cases_eq b 0) [
  | inl e ↦ rw (eq-eqb b 0 e) (omega arith)
  | inr m ↦ rw (ne_eqb b 0 m) (omega (arith, length-append (path_within n bs (parent_at bs b)) (b ∷ [])))
]

-- the same of the path after the root
pub rest-more : (bs : List Branch) (limit b : ℕ) → IsTree bs limit → 0 < b → b < length bs → drop 1 (path_of bs b) ≡ drop 1 (path_of bs (parent_at bs b)) ++ b ∷ []
rest-more bs limit b t p l =
    ap (λ (xs : List ℕ). drop 1 xs) (path-more bs limit b t p l) ∙ drop-append-le 1 (path_of bs (parent_at bs b)) (b ∷ []) (path-some (parent_at bs b) bs (parent_at bs b))
