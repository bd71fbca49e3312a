-- What a plan that isn't refused says of its branches.
use Rattle.std.proofs.Common.{◌≡◌, ℕ, ◌+◌, ◌<◌, ◌≤◌, inl, inr, true, false, cond, ltb, leb, eqb, Bool, not, List, [], ◌∷◌, ◌++◌, Option, Some, None, option_map, length, get_or, refl, sym, ap, subst, arith, suc, zero, ◌&&◌, ◌||◌, append_assoc}
use Rattle.std.specs.List.{list_any}
use Rattle.std.proofs.lemmas.Bool.{cases_lt, cases_eq, eq-eqb}
use Rattle.std.proofs.lemmas.Bool.Decides.{nat_tests}
use Rattle.std.proofs.lemmas.List.{get_or_append_left, length_push}
use Rattle.branch_tree.specs.declared.stop.Stop.{Stop}
use Rattle.branch_tree.specs.declared.stop.Stop.TheVariants.{At, When}
use Rattle.branch_tree.specs.Stops.{is_time, same_kind, is_within, no_earlier, IsWithin}
use Rattle.branch_tree.specs.declared.branch.Branch.{Branch}
use Rattle.branch_tree.specs.declared.error.PlanError.{PlanError}
use Rattle.branch_tree.specs.declared.error.PlanError.TheVariants.{ParentNotBefore, StopOutOfRange, TooManyBranches, NameTwice, StopsMixed}
use Rattle.branch_tree.specs.Plan.{no_branch, branch_at, parent_at, stop_at}
use Rattle.branch_tree.specs.Tree.{IsRooted, late_from, late_parent, is_in_range, out_from, out_of_range, earlier_refusal, too_many, too_much, repeated_name, mixes, mixed_from, mixed_stop, plan_refusal}
use Rattle.branch_tree.specs.Planned.{IsTree}

-- there is no refusal where neither is one
pub none_first : (x y : Option PlanError) → earlier_refusal x y ≡ None → (x ≡ None) × (y ≡ None)
none_first None y h = (refl, h)
none_first (Some e) y h = cc

pub none_mapped : (f : ℕ → PlanError) (x : Option ℕ) → option_map f x ≡ None → x ≡ None
none_mapped f None h = refl
none_mapped f (Some e) h = cc

pub late_passed : (t : Bool) (x : Option ℕ) (k : ℕ) → cond t x (Some k) ≡ None → (t ≡ true) × (x ≡ None)
late_passed true x k h = (refl, h)
late_passed false x k h = cc

-- each parent comes before
parents-before : (k : ℕ) (bs : List Branch) (i : ℕ) → late_from k bs ≡ None → i < length bs → (get_or bs i no_branch).parent < k + i
parents-before k [] i h l = absurd (omega arith)
parents-before k (b ∷ bs) zero h l = let p = late_passed (ltb b.parent k) (late_from (k + 1) bs) k h in grind (arith, nat_tests, p.0)
parents-before k (b ∷ bs) (suc i) h l =
    let p = late_passed (ltb b.parent k) (late_from (k + 1) bs) k h in
    omega (arith, parents-before (k + 1) bs i p.1 (omega arith))

-- each stop is in its range
pub stops-in-range : (limit : ℕ) (all : List Branch) (k : ℕ) (bs : List Branch) (i : ℕ) → out_from limit all k bs ≡ None → i < length bs → is_in_range limit all (get_or bs i no_branch) ≡ true
stops-in-range limit all k [] i h l = absurd (omega arith)
stops-in-range limit all k (b ∷ bs) zero h l = (late_passed (is_in_range limit all b) (out_from limit all (k + 1) bs) k h).0
stops-in-range limit all k (b ∷ bs) (suc i) h l =
    stops-in-range limit all (k + 1) bs i (late_passed (is_in_range limit all b) (out_from limit all (k + 1) bs) k h).1 (omega arith)

both_true : (a b : Bool) → (a && b) ≡ true → (a ≡ true) × (b ≡ true)
both_true true b h = (refl, h)
both_true false b h = cc

within-facts : (limit : ℕ) (s : Stop) → is_within limit s ≡ true → IsWithin limit s
within-facts limit (At n) h = grind (arith, nat_tests, h)
within-facts limit (When w) h = tt

range-facts : (limit : ℕ) (all : List Branch) (b : Branch) → is_in_range limit all b ≡ true → IsWithin limit b.stop
range-facts limit all b h = within-facts limit b.stop (both_true (is_within limit b.stop) (no_earlier (stop_at all b.parent) b.stop) h).0

parents-of : (bs : List Branch) (b : ℕ) → late_parent bs ≡ None → 0 < b → b < length bs → parent_at bs b < b
parents-of [] b h p l = absurd (omega arith)
parents-of (root ∷ bs) zero h p l = absurd (omega arith)
parents-of (root ∷ bs) (suc b) h p l = omega (arith, parents-before 1 bs b h (omega arith))

-- two stops of one kind
like-kinds : (x y : Stop) → same_kind x y ≡ true → is_time x ≡ is_time y
like-kinds (At m) (At n) h = refl
like-kinds (When v) (When w) h = refl
like-kinds (At m) (When w) h = cc
like-kinds (When v) (At n) h = cc

unmixed_by : (e k : Bool) → (e && not k) ≡ false → e ≡ true → k ≡ true
unmixed_by true true h p = refl
unmixed_by true false h p = cc
unmixed_by false k h p = cc

-- branches with one parent that don't mix are of one kind
unmixed : (a b : Branch) → mixes a b ≡ false → a.parent ≡ b.parent → is_time a.stop ≡ is_time b.stop
unmixed a b h e = like-kinds a.stop b.stop (unmixed_by (eqb a.parent b.parent) (same_kind a.stop b.stop) h (eq-eqb a.parent b.parent e))

pub neither : (a b : Bool) → (a || b) ≡ false → (a ≡ false) × (b ≡ false)
neither true b h = cc
neither false b h = (refl, h)

-- none of these passes a test
none_passes : (test : Branch → Bool) (xs : List Branch) (i : ℕ) → list_any test xs ≡ false → i < length xs → test (get_or xs i no_branch) ≡ false
none_passes test [] i h l = absurd (omega arith)
none_passes test (x ∷ xs) zero h l = (neither (test x) (list_any test xs) h).0
none_passes test (x ∷ xs) (suc i) h l = none_passes test xs i (neither (test x) (list_any test xs) h).1 (omega arith)

pub mixed_passed : (t : Bool) (x : Option ℕ) (k : ℕ) → cond t (Some k) x ≡ None → (t ≡ false) × (x ≡ None)
mixed_passed true x k h = cc
mixed_passed false x k h = (refl, h)

-- no branch mixes with one before it
mixed-none : (k : ℕ) (before bs : List Branch) (i j : ℕ) → mixed_from before k bs ≡ None → i < length before + j → j < length bs
    → mixes (get_or (before ++ bs) i no_branch) (get_or bs j no_branch) ≡ false
mixed-none k before [] i j h l m = absurd (omega arith)
mixed-none k before (b ∷ bs) i zero h l m =
    let p = mixed_passed (list_any (λ (a : Branch). mixes a b) before) (mixed_from (before ++ b ∷ []) (k + 1) bs) k h in
    subst (λ (x : Branch). mixes x b ≡ false) (sym (get_or_append_left before (b ∷ bs) no_branch i (omega arith)))
    (none_passes (λ (a : Branch). mixes a b) before i p.0 (omega arith))
mixed-none k before (b ∷ bs) i (suc j) h l m =
    let p = mixed_passed (list_any (λ (a : Branch). mixes a b) before) (mixed_from (before ++ b ∷ []) (k + 1) bs) k h in
    let rest = mixed-none (k + 1) (before ++ b ∷ []) bs i j p.1 (omega (arith, length_push before b)) (omega arith) in
    subst (λ (xs : List Branch). mixes (get_or xs i no_branch) (get_or bs j no_branch) ≡ false) (append_assoc before (b ∷ []) bs) rest

one_kind : (bs : List Branch) (i j : ℕ) → mixed_from [] 1 bs ≡ None → i < length bs → j < length bs → (get_or bs i no_branch).parent ≡ (get_or bs j no_branch).parent
    → is_time (get_or bs i no_branch).stop ≡ is_time (get_or bs j no_branch).stop
one_kind bs i j h a b e = elim (cases_lt i j) [
  | inl less ↦ unmixed (get_or bs i no_branch) (get_or bs j no_branch) (mixed-none 1 [] bs i j h (omega arith) b) e
  | inr more ↦ elim (cases_eq i j) [
    | inl same ↦ ap (λ (k : ℕ). is_time (get_or bs k no_branch).stop) same
    | inr other ↦ sym (unmixed (get_or bs j no_branch) (get_or bs i no_branch) (mixed-none 1 [] bs j i h (omega arith) a) (sym e))
  ]
]

-- branches with one parent leave it at stops of one kind
kinds-of : (bs : List Branch) (b c : ℕ) → mixed_stop bs ≡ None → 0 < b → b < length bs → 0 < c → c < length bs → parent_at bs b ≡ parent_at bs c → is_time (stop_at bs b) ≡ is_time (stop_at bs c)
kinds-of [] b c h p l q m e = absurd (omega arith)
kinds-of (root ∷ bs) zero c h p l q m e = absurd (omega arith)
kinds-of (root ∷ bs) (suc b) zero h p l q m e = absurd (omega arith)
kinds-of (root ∷ bs) (suc b) (suc c) h p l q m e = one_kind bs b c h (omega arith) (omega arith) e

pub few_passed : (t : Bool) (e : PlanError) → cond t None (Some e) ≡ None → t ≡ true
few_passed true e h = refl
few_passed false e h = cc

-- What is so of branches that aren't refused.
record Unrefused (bs : List Branch) (limit : ℕ) : Type 0 where
  late : late_parent bs ≡ None
  range : out_of_range limit bs ≡ None
  few : length bs ≤ 256
  kinds : mixed_stop bs ≡ None

unrefused : (bs : List Branch) (limit : ℕ) → plan_refusal bs limit ≡ None → Unrefused bs limit
unrefused bs limit h =
    let e = option_map StopsMixed (mixed_stop bs) in
    let d = earlier_refusal (too_much (length bs) limit) e in
    let c = earlier_refusal (option_map NameTwice (repeated_name bs)) d in
    let b = earlier_refusal (too_many (length bs)) c in
    let a = earlier_refusal (option_map StopOutOfRange (out_of_range limit bs)) b in
    let first = none_first (option_map ParentNotBefore (late_parent bs)) a h in
    let second = none_first (option_map StopOutOfRange (out_of_range limit bs)) b first.1 in
    let third = none_first (too_many (length bs)) c second.1 in
    let fourth = none_first (option_map NameTwice (repeated_name bs)) d third.1 in
    let fifth = none_first (too_much (length bs) limit) e fourth.1 in
    let passed = few_passed (leb (length bs) 256) (TooManyBranches (length bs)) third.0 in
    record {
      late = none_mapped ParentNotBefore (late_parent bs) first.0;
      range = none_mapped StopOutOfRange (out_of_range limit bs) second.0;
      few = grind (arith, nat_tests, passed);
      kinds = none_mapped StopsMixed (mixed_stop bs) fifth.1;
    }

-- branches that aren't refused make a tree
pub tree_from : (bs : List Branch) (limit : ℕ) → IsRooted bs → plan_refusal bs limit ≡ None → IsTree bs limit
tree_from bs limit root h =
    let all = unrefused bs limit h in
    record {
      some = root.some;
      parents = λ b p l. parents-of bs b all.late p l;
      limits = λ b l. range-facts limit bs (branch_at bs b) (stops-in-range limit bs 0 bs b all.range l);
      kinds = λ b c p l q m e. kinds-of bs b c all.kinds p l q m e;
    }

-- branches that aren't refused are at most 256
pub few_from : (bs : List Branch) (limit : ℕ) → plan_refusal bs limit ≡ None → length bs ≤ 256
few_from bs limit h = (unrefused bs limit h).few
