-- The places of keys.
use Rattle.std.proofs.Common.{◌≡◌, ◌≢◌, ℕ, zero, suc, ◌+◌, ◌<◌, Bool, true, false, List, [], ◌∷◌, ◌++◌, Option, Some, None, slice_get, length, sym, refl, ap, ◌∙◌, subst, ⊎_elim, arith, inl, inr, ◌⊎◌, true≢false, ◌==◌, ◌&&◌, ◌||◌, not, ◌%◌}
use Rattle.std.specs.List.{list_any, list_all, position_from}
use Rattle.std.proofs.Math.Nat.{mod-lt}
use Rattle.std.proofs.lemmas.List.Folds.{list_any-append}
use Rattle.shelf_core.specs.Plan.{same_key, is_in, are_distinct, index_of, fork_or_grid, place_of, is_at, has_alone, is_sole, place_in, sole_in, place_count}
use Rattle.shelf_core.specs.declared.plan.Key.{Key}
use Rattle.shelf_core.specs.declared.plan.ShelfPlan.{ShelfPlan}
use Rattle.shelf_core.proofs.Lists.{some_same, not_some, bool_cases, within}

pub and_left : (a b : Bool) → (a && b) ≡ true → a ≡ true
and_left true b e = refl
and_left false b e = e

pub and_right : (a b : Bool) → (a && b) ≡ true → b ≡ true
and_right true b e = e
and_right false b e = absurd (true≢false (sym e))

pub and_both : (a b : Bool) → a ≡ true → b ≡ true → (a && b) ≡ true
and_both a b e f = rw e f

pub or_either : (a b : Bool) → (a || b) ≡ true → (a ≡ true) ⊎ (b ≡ true)
or_either true b e = inl refl
or_either false b e = inr e

pub not_true : (a : Bool) → not a ≡ true → a ≡ false
not_true true e = absurd (true≢false (sym e))
not_true false e = refl

pub eq_true : (a b : ℕ) → (a == b) ≡ true → a ≡ b
eq_true a b e = grind (arith, e)

pub key_is : (a b : Key) → same_key a b ≡ true → a ≡ b
key_is a b e =
    let s : a.segment ≡ b.segment = eq_true a.segment b.segment (and_left (a.segment == b.segment) (a.event == b.event) e) in
    let v : a.event ≡ b.event = eq_true a.event b.event (and_right (a.segment == b.segment) (a.event == b.event) e) in
    λ i. record { segment = s i; event = v i }

pub key_self : (a : Key) → same_key a a ≡ true
key_self a = grind arith

-- where a test first passes
found : (test : Key → Bool) (i j : ℕ) (keys : List Key) → position_from test i keys ≡ Some j → (d : ℕ) × (key : Key) × (j ≡ i + d) × (slice_get keys d ≡ Some key) × (test key ≡ true)
found test i j [] e = absurd (not_some j e)
found test i j (k ∷ keys) e = ⊎_elim
    (λ (yes : test k ≡ true). let h : Some i ≡ Some j = rw yes at e in let s = some_same i j h in (0, k, omega arith, refl, yes))
    (λ (no : test k ≡ false). let h : position_from test (i + 1) keys ≡ Some j = rw no at e in let r = found test (i + 1) j keys h in let s = r.2 in (suc r.0, r.1, omega arith, r.3, r.4))
    (bool_cases (test k))

-- a test that passes somewhere passes first somewhere
first_of_any : (test : Key → Bool) (i : ℕ) (keys : List Key) → list_any test keys ≡ true → (j : ℕ) × (position_from test i keys ≡ Some j)
first_of_any test i [] e = absurd (true≢false (sym e))
first_of_any test i (k ∷ keys) e = ⊎_elim
    (λ (yes : test k ≡ true). (i, rw yes refl))
    (λ (no : test k ≡ false). let h : list_any test keys ≡ true = rw no at e in let r = first_of_any test (i + 1) keys h in (r.0, rw no r.1))
    (bool_cases (test k))

pub index_found : (key : Key) (j : ℕ) (keys : List Key) → index_of key keys ≡ Some j → slice_get keys j ≡ Some key
index_found key j keys e = let r = found (λ k. same_key k key) 0 j keys e in
    let at : j ≡ r.0 = (let s = r.2 in omega arith) in
    ap (λ n. slice_get keys n) at ∙ r.3 ∙ ap Some (key_is r.1 key r.4)

-- a key that is in a list stands at its index
pub in_has_index : (key : Key) (keys : List Key) → is_in key keys ≡ true → (j : ℕ) × (index_of key keys ≡ Some j)
in_has_index key keys e = first_of_any (λ k. same_key k key) 0 keys e

-- what passes at a place passes in a list of which all pass
pub all_at : (test : Key → Bool) (keys : List Key) (j : ℕ) (key : Key) → list_all test keys ≡ true → slice_get keys j ≡ Some key → test key ≡ true
all_at test [] j key all e = absurd (not_some key e)
all_at test (k ∷ keys) zero key all e = subst (λ x. test x ≡ true) (some_same k key e) (and_left (test k) (list_all test keys) all)
all_at test (k ∷ keys) (suc j) key all e = all_at test keys j key (and_right (test k) (list_all test keys) all) e

-- Where the place of a key comes from: it is a fork, or else a grid key.
pub place_cases : (plan : ShelfPlan) (a b : Option ℕ) (p : ℕ) → fork_or_grid plan a b ≡ Some p
    → (a ≡ Some p) ⊎ ((j : ℕ) × (b ≡ Some j) × (plan.places ≢ 0) × (p ≡ length plan.forks + j % plan.places))
place_cases plan (Some i) b p e = inl e
place_cases plan None None p e = absurd (not_some p e)
place_cases plan None (Some j) p e = ⊎_elim
    (λ (yes : (plan.places == 0) ≡ true). let h : None ≡ Some p = rw yes at e in absurd (not_some p h))
    (λ (no : (plan.places == 0) ≡ false). let h : Some (length plan.forks + j % plan.places) ≡ Some p = rw no at e in
    inr (j, refl, (λ z. grind (arith, no, z)), sym (some_same _ p h)))
    (bool_cases (plan.places == 0))

pub place_below : (plan : ShelfPlan) (key : Key) (p : ℕ) → place_of plan key ≡ Some p → p < place_count plan
place_below plan key p e = ⊎_elim
    (λ (fork : index_of key plan.forks ≡ Some p). let w : p < length plan.forks = within plan.forks p key (index_found key p plan.forks fork) in omega arith)
    (λ (grid : (j : ℕ) × (index_of key plan.grid ≡ Some j) × (plan.places ≢ 0) × (p ≡ length plan.forks + j % plan.places)).
    let some : 0 < plan.places = (let z = grid.2 in omega arith) in
    let low : grid.0 % plan.places < plan.places = mod-lt grid.0 some in let is = grid.3 in omega arith)
    (place_cases plan (index_of key plan.forks) (index_of key plan.grid) p e)

-- a fork's place is one of the forks'
pub fork_place : (plan : ShelfPlan) (key : Key) → is_in key plan.forks ≡ true → (p : ℕ) × (place_of plan key ≡ Some p) × (p < length plan.forks)
fork_place plan key e = let r = in_has_index key plan.forks e in let is = r.1 in
    (r.0, rw is refl, within plan.forks r.0 key (index_found key r.0 plan.forks is))

same_at : (p : ℕ) → is_at (Some p) p ≡ true
same_at p = grind arith

-- No other key has the place of a sole key.
pub sole_alone : (plan : ShelfPlan) (key other : Key) (p : ℕ) → is_sole plan key ≡ true → place_of plan key ≡ Some p → place_of plan other ≡ Some p → other ≡ key
sole_alone plan key other p sole at at' = ⊎_elim
    (λ (fork : index_of other plan.forks ≡ Some p). let x = index_found other p plan.forks fork in ⊎_elim
    (λ (mine : index_of key plan.forks ≡ Some p). some_same other key (sym x ∙ index_found key p plan.forks mine))
    (λ (grid : (j : ℕ) × (index_of key plan.grid ≡ Some j) × (plan.places ≢ 0) × (p ≡ length plan.forks + j % plan.places)).
    let w : p < length plan.forks = within plan.forks p other x in let is = grid.3 in absurd (omega arith))
    (place_cases plan (index_of key plan.forks) (index_of key plan.grid) p at))
    (λ (grid : (j : ℕ) × (index_of other plan.grid ≡ Some j) × (plan.places ≢ 0) × (p ≡ length plan.forks + j % plan.places)).
    let x = index_found other grid.0 plan.grid grid.1 in let is = grid.3 in ⊎_elim
    (λ (fork : is_in key plan.forks ≡ true). let r = fork_place plan key fork in let low = r.2 in let same : p ≡ r.0 = some_same p r.0 (sym at ∙ r.1) in absurd (omega arith))
    (λ (alone : has_alone plan key (place_of plan key) ≡ true).
    let all : list_all (λ k. same_key k key || not (is_at (place_of plan k) p)) plan.grid ≡ true = rw at at alone in
    ⊎_elim
    (λ (same : same_key other key ≡ true). key_is other key same)
    (λ (apart : not (is_at (place_of plan other) p) ≡ true). let h : not (is_at (Some p) p) ≡ true = rw at' at apart in absurd (true≢false (sym (same_at p) ∙ not_true (is_at (Some p) p) h)))
    (or_either (same_key other key) (not (is_at (place_of plan other) p)) (all_at (λ k. same_key k key || not (is_at (place_of plan k) p)) plan.grid grid.0 other all x)))
    (or_either (is_in key plan.forks) (has_alone plan key (place_of plan key)) sole))
    (place_cases plan (index_of other plan.forks) (index_of other plan.grid) p at')

-- The same of a system's plan.
pub alone_in : (plan : Option ShelfPlan) (key other : Key) (p : ℕ) → sole_in plan key ≡ true → place_in plan key ≡ Some p → place_in plan other ≡ Some p → other ≡ key
alone_in None key other p sole at at' = absurd (not_some p at)
alone_in (Some plan) key other p sole at at' = sole_alone plan key other p sole at at'

bools : (a b c d e : Bool) → (not (a || b) && ((c && d) && e)) ≡ (((not a && c) && d) && (not b && e))
bools true b c d e = refl
bools false true true true e = refl
bools false true true false e = refl
bools false true false d e = refl
bools false false c d e = refl

-- No key stands twice in two lists where none does in either, and none of the one stands in the other.
pub distinct_append : (keys others : List Key) → are_distinct (keys ++ others) ≡ ((are_distinct keys && are_distinct others) && list_all (λ key. not (is_in key others)) keys)
distinct_append [] others = and_true (are_distinct others)
  where
    and_true : (a : Bool) → a ≡ (a && true)
    and_true true = refl
    and_true false = refl
distinct_append (key ∷ keys) others =
    ap (λ b. not b && are_distinct (keys ++ others)) (list_any-append (λ k. same_key k key) keys others)
    ∙ ap (λ b. not (is_in key keys || is_in key others) && b) (distinct_append keys others)
    ∙ bools (is_in key keys) (is_in key others) (are_distinct keys) (are_distinct others) (list_all (λ k. not (is_in k others)) keys)
