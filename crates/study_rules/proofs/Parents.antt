-- Where the rules of names and parents hold, the parent that is named is an earlier branch.
use Rattle.std.proofs.Common.{◌≡◌, ◌≤◌, ◌<◌, ◌+◌, ◌++◌, ℕ, suc, nat_lt, Bool, true, false, List, [], ◌∷◌, map, length, Option, None, Some, IfSome, refl, ap, sym, ◌∙◌, arith, subst, cond, codes, bytes_eq, inl, inr}
use Rattle.std.specs.Prelude.{◌||◌, not, slice_index_or}
use Rattle.std.specs.List.{list_any, position_from}
use Rattle.std.proofs.lemmas.Bool.{and_parts, false≢true}
use Rattle.std.proofs.lemmas.Bool.Decides.{nat_tests}
use Rattle.std.proofs.lemmas.Iterator.Adapters.{position_from-zero}
use Rattle.toml.specs.Data.{Data}
use Rattle.branch_tree.specs.Tree.{late_from}
use Rattle.branch_tree.specs.Names.{is_name}
use Rattle.study_file.specs.Tables.{is_named}
use Rattle.study_file.proofs.KeyLists.{any-map}
use Rattle.study_rules.specs.Entries.{name_in, parent_in}
use Rattle.study_rules.specs.BranchRules.{names_of, has_new_name, has_parent, place_named}
use Rattle.study_rules.specs.Scope.{Scope}
use Rattle.study_rules.specs.Branches.{number_named, branch_of}
use Rattle.study_rules.proofs.Beside.{AllBeside, Each, none-if, append-one, length-one}
use Rattle.study_rules.proofs.Tests.{if-pass, or-true, not-true}
use Rattle.study_rules.proofs.Texts.{same-bytes, other-bytes}
use Rattle.branch_tree.proofs.TreeLemmas.{neither as or-false}

-- names

-- a new name is neither the root's nor one's before it
pub new-name : (before : List Data) (d : Data) → has_new_name before d ≡ true → is_named (names_of before) (name_in d) ≡ false
new-name before d h =
    not-true (is_named (names_of before) (name_in d)) (and_parts (is_name (name_in d)) (not (is_named (names_of before) (name_in d))) h).1

pub not-root : (before ds : List Data) → AllBeside has_new_name before ds
    → list_any (λ d. bytes_eq (name_in d) (codes "root")) ds ≡ false
not-root before [] h = refl
not-root before (d ∷ ds) h =
    let apart = or-false (bytes_eq (codes "root") (name_in d)) (list_any (λ name. bytes_eq name (name_in d)) (map name_in before)) (new-name before d h.0) in
    let here : bytes_eq (name_in d) (codes "root") ≡ false = other-bytes (codes "root") (name_in d) apart.0 in
    ap (λ b. b || list_any (λ x. bytes_eq (name_in x) (codes "root")) ds) here ∙ not-root (before ++ d ∷ []) ds h.1

-- parents

none-named : (q : Data → Bool) (k : ℕ) (ds : List Data) → list_any q ds ≡ false → position_from q k ds ≡ None
none-named q k [] h = refl
none-named q k (x ∷ xs) h =
    let parts = or-false (q x) (list_any q xs) h in
    ap (λ b. cond b (Some k) (position_from q (k + 1) xs)) parts.0 ∙ none-named q (k + 1) xs parts.1

below-more : (o : Option ℕ) (n m : ℕ) → n ≤ m → IfSome o (λ i. i < n) → IfSome o (λ i. i < m)
below-more None n m le h = tt
below-more (Some i) n m le h = omega (arith, le, h)

found-step : (b c : Bool) (k n : ℕ) (o : Option ℕ) → (b || c) ≡ true → (c ≡ true → IfSome o (λ i. i < k + 1 + n))
    → IfSome (cond b (Some k) o) (λ i. i < k + suc n)
found-step true c k n o h more = omega arith
found-step false c k n o h more = below-more o (k + 1 + n) (k + suc n) (omega arith) (more h)

found-before : (q : Data → Bool) (before ds : List Data) (k : ℕ) → list_any q before ≡ true
    → IfSome (position_from q k (before ++ ds)) (λ i. i < k + length before)
found-before q [] ds k h = absurd (cc h)
found-before q (x ∷ xs) ds k h =
    found-step (q x) (list_any q xs) k (length xs) (position_from q (k + 1) (xs ++ ds)) h (λ more. found-before q xs ds (k + 1) more)

number-bound : (o : Option ℕ) (n : ℕ) → IfSome o (λ i. i < n) → ◌≤◌ (elim o [ None ↦ 0 | Some i ↦ i + 1 ]) n
number-bound None n h = omega arith
number-bound (Some i) n h = omega (arith, h)

place-from : (whole : List Data) (name : List ℕ) → place_named whole name ≡ position_from (λ d. bytes_eq (name_in d) name) 0 whole
place-from whole name = position_from-zero (λ d. bytes_eq (name_in d) name) whole

root-number : (whole : List Data) (name : List ℕ) (n : ℕ) → list_any (λ d. bytes_eq (name_in d) (codes "root")) whole ≡ false
    → codes "root" ≡ name → number_named whole name ≤ n
root-number whole name n h e =
    let none : place_named whole name ≡ None = place-from whole name ∙ none-named (λ d. bytes_eq (name_in d) name) 0 whole
    (subst (λ w. list_any (λ d. bytes_eq (name_in d) w) whole ≡ false) e h) in
    subst (λ (o : Option ℕ). ◌≤◌ (elim o [ None ↦ 0 | Some i ↦ i + 1 ]) n) (sym none) (omega arith)

found-number : (whole before ds : List Data) (name : List ℕ) → whole ≡ before ++ ds
    → list_any (λ d. bytes_eq (name_in d) name) before ≡ true → number_named whole name ≤ length before
found-number whole before ds name e h =
    let found : IfSome (position_from (λ d. bytes_eq (name_in d) name) 0 (before ++ ds)) (λ i. i < 0 + length before)
    = found-before (λ d. bytes_eq (name_in d) name) before ds 0 h in
    let same : position_from (λ d. bytes_eq (name_in d) name) 0 (before ++ ds) ≡ place_named whole name
    = ap (position_from (λ d. bytes_eq (name_in d) name) 0) (sym e) ∙ sym (place-from whole name) in
    number-bound (place_named whole name) (length before)
    (below-more (place_named whole name) (0 + length before) (length before) (omega arith) (subst (λ o. IfSome o (λ i. i < 0 + length before)) same found))

parent-before : (whole before ds : List Data) (name : List ℕ) → whole ≡ before ++ ds
    → list_any (λ d. bytes_eq (name_in d) (codes "root")) whole ≡ false
    → is_named (names_of before) name ≡ true → number_named whole name ≤ length before
parent-before whole before ds name e apart h =
    elim (or-true (bytes_eq (codes "root") name) (list_any (λ n. bytes_eq n name) (map name_in before)) h) [
      | inl is ↦ root-number whole name (length before) apart (same-bytes (codes "root") name is)
      | inr is ↦ found-number whole before ds name e (sym (any-map name_in (λ n. bytes_eq n name) before) ∙ is)
    ]

pub late-none : (scope : Scope) (whole before ds : List Data) (k : ℕ) → whole ≡ before ++ ds → k ≡ length before + 1
    → list_any (λ d. bytes_eq (name_in d) (codes "root")) whole ≡ false
    → AllBeside has_parent before ds → late_from k (map (branch_of scope whole) ds) ≡ None
late-none scope whole before [] k e f apart h = refl
late-none scope whole before (d ∷ ds) k e f apart h =
    let bound : number_named whole (parent_in d) ≤ length before = parent-before whole before (d ∷ ds) (parent_in d) e apart h.0 in
    let earlier : nat_lt (number_named whole (parent_in d)) k ≡ true = grind (arith, nat_tests, bound, f) in
    if-pass (nat_lt (number_named whole (parent_in d)) k) (late_from (k + 1) (map (branch_of scope whole) ds)) (Some k) earlier
    ∙ late-none scope whole (before ++ d ∷ []) ds (k + 1) (e ∙ sym (append-one before d ds))
    (ap (λ n. n + 1) f ∙ ap (λ n. n + 1) (sym (length-one before d))) apart h.1

-- the name at the place of a name is that name

any-found : (q : Data → Bool) (before ds : List Data) (k : ℕ) → list_any q before ≡ true → position_from q k (before ++ ds) ≡ None → ⊥
any-found q [] ds k h none = absurd (cc h)
any-found q (x ∷ xs) ds k h none =
    let parts = none-if (q x) k (position_from q (k + 1) (xs ++ ds)) none in
    elim (or-true (q x) (list_any q xs) h) [
      | inl is ↦ false≢true (sym parts.0 ∙ is)
      | inr is ↦ any-found q xs ds (k + 1) is parts.1
    ]

index-here : (before : List Data) (x : Data) (xs : List Data) → slice_index_or (map name_in (before ++ x ∷ xs)) (length before) [] ≡ name_in x
index-here [] x xs = refl
index-here (y ∷ ys) x xs = index-here ys x xs

some-if : (b : Bool) (k : ℕ) (o : Option ℕ) (P : ℕ → Type 0) → (b ≡ true → P k) → IfSome o P → IfSome (cond b (Some k) o) P
some-if true k o P here later = here refl
some-if false k o P here later = later

found-at : (name : List ℕ) (before ds : List Data) (k : ℕ) → k ≡ length before
    → IfSome (position_from (λ d. bytes_eq (name_in d) name) k ds) (λ i. slice_index_or (map name_in (before ++ ds)) i [] ≡ name)
found-at name before [] k e = tt
found-at name before (x ∷ xs) k e =
    some-if (bytes_eq (name_in x) name) k (position_from (λ d. bytes_eq (name_in d) name) (k + 1) xs)
    (λ i. slice_index_or (map name_in (before ++ x ∷ xs)) i [] ≡ name)
    (λ is. ap (λ n. slice_index_or (map name_in (before ++ x ∷ xs)) n []) e ∙ index-here before x xs ∙ same-bytes (name_in x) name is)
    (subst (λ whole. IfSome (position_from (λ d. bytes_eq (name_in d) name) (k + 1) xs) (λ i. slice_index_or (map name_in whole) i [] ≡ name))
    (append-one before x xs) (found-at name (before ++ x ∷ []) xs (k + 1) (ap (λ n. n + 1) e ∙ sym (length-one before x))))

-- the name of the branch at a place, and else the root's
abbrev pub name_at : List Data → Option ℕ → List ℕ
name_at whole o = elim o [ None ↦ codes "root" | Some i ↦ slice_index_or (map name_in whole) i [] ]

back-if : (whole : List Data) (name : List ℕ) (o : Option ℕ) → IfSome o (λ i. slice_index_or (map name_in whole) i [] ≡ name)
    → (o ≡ None → codes "root" ≡ name) → name_at whole o ≡ name
back-if whole name None h root = root refl
back-if whole name (Some i) h root = h

named-back : (whole before ds : List Data) (name : List ℕ) → whole ≡ before ++ ds → is_named (names_of before) name ≡ true
    → name_at whole (place_named whole name) ≡ name
named-back whole before ds name e h =
    back-if whole name (place_named whole name)
    (subst (λ o. IfSome o (λ i. slice_index_or (map name_in whole) i [] ≡ name)) (sym (place-from whole name)) (found-at name [] whole 0 refl))
    (λ none. elim (or-true (bytes_eq (codes "root") name) (list_any (λ n. bytes_eq n name) (map name_in before)) h) [
      | inl is ↦ same-bytes (codes "root") name is
      | inr is ↦ absurd (any-found (λ d. bytes_eq (name_in d) name) before ds 0 (sym (any-map name_in (λ n. bytes_eq n name) before) ∙ is)
          (ap (position_from (λ d. bytes_eq (name_in d) name) 0) (sym e) ∙ sym (place-from whole name) ∙ none))
    ])

-- the parent that a branch names is the root or one of the branches
abbrev pub IsKnown : List Data → Data → Type 0
IsKnown whole d = name_at whole (place_named whole (parent_in d)) ≡ parent_in d

pub each-known : (whole before ds : List Data) → whole ≡ before ++ ds → AllBeside has_parent before ds → Each (λ d. IsKnown whole d) ds
each-known whole before [] e h = tt
each-known whole before (d ∷ ds) e h =
    (named-back whole before (d ∷ ds) (parent_in d) e h.0, each-known whole (before ++ d ∷ []) ds (e ∙ sym (append-one before d ds)) h.1)
