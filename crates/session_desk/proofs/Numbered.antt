-- A tree whose branches fork by event number: along each path the stops rise.
use Rattle.std.proofs.Common.{◌≡◌, ◌<◌, ◌≤◌, ℕ, ◌+◌, true, false, List, [], ◌∷◌, ◌++◌, All, length, drop, refl, sym, ap, subst, arith, suc, zero, inl, inr}
use Rattle.std.proofs.lemmas.Bool.{and_parts, cases_eq, cases_lt, leb-true}
use Rattle.std.proofs.lemmas.List.{get_or_past}
use Rattle.std.proofs.lemmas.List.Elements.{All-get_or}
use Rattle.branch_tree.specs.declared.branch.Branch.{Branch}
use Rattle.branch_tree.specs.declared.stop.Stop.{Stop}
use Rattle.branch_tree.specs.declared.stop.Stop.TheVariants.{At, When}
use Rattle.branch_tree.specs.Stops.{is_time, is_within, no_earlier, number_of}
use Rattle.branch_tree.specs.Plan.{no_branch, parent_at, stop_at}
use Rattle.branch_tree.specs.Paths.{path_of}
use Rattle.branch_tree.specs.Planned.{IsTree}
use Rattle.branch_tree.proofs.PathLemmas.{path-more}
use Rattle.branch_tree.proofs.TreeLemmas.{tree_from, stops-in-range as in-range}
use Rattle.kernel_copy.specs.Full.{forks_of}
use Rattle.session_desk.specs.Session.{SessionTold, IsSession}
use Rattle.session_desk.proofs.Accepted.{parts-of}

pub at-number : (x : Stop) → is_time x ≡ false → x ≡ At (number_of x)
at-number (At n) h = refl
at-number (When w) h = cc

-- the event number at which a branch leaves its parent
abbrev pub number_at : List Branch → ℕ → ℕ
number_at bs b = number_of (stop_at bs b)

-- Each branch leaves its parent at an event number, no less than that of its parent's own stop.
pub record IsNumbered (bs : List Branch) (limit : ℕ) : Type 0 where
  pub tree : IsTree bs limit
  pub stop : (b : ℕ) → stop_at bs b ≡ At (number_at bs b)
  pub rises : (b : ℕ) → 0 < b → b < length bs → number_at bs (parent_at bs b) ≤ number_at bs b
  pub start : number_at bs 0 ≡ 0

no-less : (x y : Stop) (m n : ℕ) → x ≡ At m → y ≡ At n → no_earlier x y ≡ true → m ≤ n
no-less x y m n p q h = leb-true m n (subst (λ (s : Stop). no_earlier (At m) s ≡ true) q (subst (λ (s : Stop). no_earlier s y ≡ true) p h))

pub numbers-at : (bs : List Branch) (b : ℕ) → All (λ (x : Branch). is_time x.stop ≡ false) bs → is_time (stop_at bs b) ≡ false
numbers-at bs b h = elim (cases_lt b (length bs)) [
  | inl l ↦ All-get_or (λ (x : Branch). is_time x.stop ≡ false) bs b no_branch l h
  | inr past ↦ ap (λ (x : Branch). is_time x.stop) (get_or_past bs b no_branch past)
]

-- the tree of a session
pub numbered : (s : SessionTold) → IsSession s → IsNumbered s.branches s.course.opening.limit
numbered s h =
    let bs = s.branches in
    let limit = s.course.opening.limit in
    let range = (parts-of bs limit h.tree.accepted).range in
    let stop : (b : ℕ) → stop_at bs b ≡ At (number_at bs b) = λ b. at-number (stop_at bs b) (numbers-at bs b h.numbers) in
    record {
      tree = tree_from bs limit h.tree.rooted h.tree.accepted;
      stop = stop;
      rises = λ b pos l.
          let both = and_parts (is_within limit (stop_at bs b)) (no_earlier (stop_at bs (parent_at bs b)) (stop_at bs b)) (in-range limit bs 0 bs b range l) in
          no-less (stop_at bs (parent_at bs b)) (stop_at bs b) (number_at bs (parent_at bs b)) (number_at bs b) (stop (parent_at bs b)) (stop b) both.1;
      start = ap (λ (x : Stop). number_of x) h.tree.rooted.stop;
    }

-- a branch leaves its parent at an event number, at most n
pub record LeavesBy (bs : List Branch) (n d : ℕ) : Type 0 where
  pub at : ℕ
  pub stop : stop_at bs d ≡ At at
  pub by : at ≤ n

-- so does each of these
abbrev pub LeaveBy : List Branch → ℕ → List ℕ → Type 0
LeaveBy bs n [] = Unit {0}
LeaveBy bs n (d ∷ ds) = LeavesBy bs n d × LeaveBy bs n ds

leave-later : (bs : List Branch) (m n : ℕ) (xs : List ℕ) → m ≤ n → LeaveBy bs m xs → LeaveBy bs n xs
leave-later bs m n [] l h = tt
leave-later bs m n (d ∷ ds) l h = (record { at = h.0.at; stop = h.0.stop; by = omega (arith, h.0.by, l) }, leave-later bs m n ds l h.1)

leave-push : (bs : List Branch) (n : ℕ) (xs : List ℕ) (d : ℕ) → LeaveBy bs n xs → LeavesBy bs n d → LeaveBy bs n (xs ++ d ∷ [])
leave-push bs n [] d h k = (k, tt)
leave-push bs n (x ∷ xs) d h k = (h.0, leave-push bs n xs d h.1 k)

leave-rest : (bs : List Branch) (n : ℕ) (xs : List ℕ) → LeaveBy bs n xs → LeaveBy bs n (drop 1 xs)
leave-rest bs n [] h = tt
leave-rest bs n (x ∷ xs) h = h.1

path-leaves : (k : ℕ) (bs : List Branch) (limit b : ℕ) → IsNumbered bs limit → b < length bs → b ≤ k → LeaveBy bs (number_at bs b) (path_of bs b)
path-leaves zero bs limit b h l low =
    let first : 0 ≡ b = omega (arith, low) in
    subst (λ (x : ℕ). LeaveBy bs (number_at bs x) (path_of bs x)) first (record { at = number_at bs 0; stop = h.stop 0; by = omega arith }, tt)
path-leaves (suc k) bs limit b h l low = elim (cases_eq b 0) [
  | inl e ↦ subst (λ (x : ℕ). LeaveBy bs (number_at bs x) (path_of bs x)) (sym e) (record { at = number_at bs 0; stop = h.stop 0; by = omega arith }, tt)
  | inr other ↦
      let q = parent_at bs b in
      let pos : 0 < b = omega (arith, other) in
      let less = h.tree.parents b pos l in
      let before = leave-later bs (number_at bs q) (number_at bs b) (path_of bs q) (h.rises b pos l) (path-leaves k bs limit q h (omega (arith, less, l)) (omega (arith, less, low))) in
      subst (λ (xs : List ℕ). LeaveBy bs (number_at bs b) xs) (sym (path-more bs limit b h.tree pos l))
      (leave-push bs (number_at bs b) (path_of bs q) b before (record { at = number_at bs b; stop = h.stop b; by = omega arith }))
]

-- all branches of a branch's path leave their parents by the branch's own stop
pub path-by : (bs : List Branch) (limit b n : ℕ) → IsNumbered bs limit → b < length bs → number_at bs b ≤ n → LeaveBy bs n (path_of bs b)
path-by bs limit b n h l most = leave-later bs (number_at bs b) n (path_of bs b) most (path-leaves b bs limit b h l (omega arith))

pub forks-by : (bs : List Branch) (limit b n : ℕ) → IsNumbered bs limit → b < length bs → number_at bs b ≤ n → LeaveBy bs n (forks_of bs b)
forks-by bs limit b n h l most = leave-rest bs n (path_of bs b) (path-by bs limit b n h l most)
