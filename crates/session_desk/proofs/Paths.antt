-- Paths whose branches stand in two trees alike.
use Rattle.std.proofs.Common.{◌≡◌, ℕ, true, Bool, List, [], ◌∷◌, ◌++◌, Some, None, drop, refl, sym, ap, ◌∙◌, suc, zero, inl, inr}
use Rattle.std.specs.Prelude.{if◌then◌else◌, nat_le}
use Rattle.std.proofs.lemmas.Bool.{cases_eq, cases_Bool, eq-eqb, ne_eqb}
use Rattle.branch_tree.specs.declared.branch.Branch.{Branch}
use Rattle.branch_tree.specs.Plan.{Plan, branch_at, parent_at, stop_at}
use Rattle.branch_tree.specs.Paths.{path_of, path_within}
use Rattle.market_floor.specs.declared.opening.Opening.{Opening}
use Rattle.kernel_core.specs.Edited.{edited}
use Rattle.kernel_core.specs.Until.{Run, until}
use Rattle.kernel_copy.specs.Full.{edited_by, full, full_along, opening_run}
use Rattle.kernel_copy.specs.UntilStop.{until_stop}
use Rattle.session_desk.specs.Anchors.{first_other}

-- these branches are the same in two trees
abbrev pub AreAlike : List Branch → List Branch → List ℕ → Type 0
AreAlike ts bs [] = Unit {0}
AreAlike ts bs (d ∷ ds) = (branch_at ts d ≡ branch_at bs d) × AreAlike ts bs ds

alike-first : (ts bs : List Branch) (xs : List ℕ) (d : ℕ) → AreAlike ts bs (xs ++ d ∷ []) → AreAlike ts bs xs
alike-first ts bs [] d h = tt
alike-first ts bs (x ∷ xs) d h = (h.0, alike-first ts bs xs d h.1)

alike-last : (ts bs : List Branch) (xs : List ℕ) (d : ℕ) → AreAlike ts bs (xs ++ d ∷ []) → branch_at ts d ≡ branch_at bs d
alike-last ts bs [] d h = h.0
alike-last ts bs (x ∷ xs) d h = alike-last ts bs xs d h.1

alike-rest : (ts bs : List Branch) (xs : List ℕ) → AreAlike ts bs xs → AreAlike ts bs (drop 1 xs)
alike-rest ts bs [] h = tt
alike-rest ts bs (x ∷ xs) h = h.1

-- so are all of a path on which each is own
pub own-alike : (ts bs : List Branch) (own : ℕ → Bool) (xs : List ℕ) → ((d : ℕ) → own d ≡ true → branch_at ts d ≡ branch_at bs d) → first_other own xs ≡ None → AreAlike ts bs xs
own-alike ts bs own [] h none = tt
own-alike ts bs own (x ∷ xs) h none = elim (cases_Bool (own x)) [
  | inl is ↦
      let rest : first_other own xs ≡ None = sym (ap (λ (t : Bool). if t then first_other own xs else Some x) is) ∙ none in
      (h x is, own-alike ts bs own xs h rest)
  | inr foreign ↦
      let some : Some x ≡ None = sym (ap (λ (t : Bool). if t then first_other own xs else Some x) foreign) ∙ none in
      cc
]

path-alike : (n : ℕ) (ts bs : List Branch) (b : ℕ) → AreAlike ts bs (path_within n ts b) → path_within n ts b ≡ path_within n bs b
path-alike zero ts bs b h = refl
path-alike (suc n) ts bs b h = elim (cases_eq b 0) [
  | inl e ↦ rw (eq-eqb b 0 e) refl
  | inr other ↦
      let all : AreAlike ts bs (path_within n ts (parent_at ts b) ++ b ∷ []) = rw (ne_eqb b 0 other) at h in
      let same : parent_at ts b ≡ parent_at bs b = ap (λ (x : Branch). x.parent) (alike-last ts bs (path_within n ts (parent_at ts b)) b all) in
      let before = path-alike n ts bs (parent_at ts b) (alike-first ts bs (path_within n ts (parent_at ts b)) b all) in
      rw (ne_eqb b 0 other) (ap (λ (xs : List ℕ). xs ++ b ∷ []) (before ∙ ap (λ (q : ℕ). path_within n bs q) same))
]

-- a path whose branches are alike in another tree is the branch's there
pub same-path : (ts bs : List Branch) (b : ℕ) → AreAlike ts bs (path_of ts b) → path_of ts b ≡ path_of bs b
same-path ts bs b h = path-alike b ts bs b h

runs-alike : (o : Opening) (ts bs : List Branch) (e : ℕ) (xs : List ℕ) (r : Run) → AreAlike ts bs xs → full_along o ts e xs r ≡ full_along o bs e xs r
runs-alike o ts bs e [] r h = refl
runs-alike o ts bs e (c ∷ cs) r h =
    let x = until_stop o (stop_at bs c) r in
    ap (λ (y : Branch). if nat_le (until_stop o y.stop r).state.events e then full_along o ts e cs (edited c y.edits (until_stop o y.stop r)) else until o e r) h.0
    ∙ ap (λ (q : Run). if nat_le x.state.events e then q else until o e r) (runs-alike o ts bs e cs (edited_by bs c x) h.1)

-- and the branch's full runs are the same
pub same-runs : (o : Opening) (t p : Plan) (b e : ℕ) → AreAlike t.branches p.branches (path_of t.branches b) → full o p b e ≡ full o t b e
unfolding full
same-runs o t p b e h =
    ap (λ (xs : List ℕ). full_along o p.branches e (drop 1 xs) (opening_run o)) (sym (same-path t.branches p.branches b h))
    ∙ sym (runs-alike o t.branches p.branches e (drop 1 (path_of t.branches b)) (opening_run o) (alike-rest t.branches p.branches (path_of t.branches b) h))
