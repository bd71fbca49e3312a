-- Where the rules of parents and stops hold, all branches with one parent leave it at stops of one kind.
use Rattle.std.proofs.Common.{◌≡◌, ◌+◌, ◌++◌, ◌==◌, ℕ, ℤ, Bool, true, false, List, [], ◌∷◌, map, Option, None, Some, refl, ap, sym, ◌∙◌, arith, bytes_eq, inl, inr}
use Rattle.std.specs.Prelude.{◌&&◌, ◌||◌, not}
use Rattle.std.specs.List.{list_any}
use Rattle.std.proofs.lemmas.Bool.{cases_Bool, false≢true}
use Rattle.std.proofs.lemmas.Bool.Decides.{nat_tests}
use Rattle.std.proofs.lemmas.List.{map-append}
use Rattle.std.proofs.lemmas.Slice.Eq.{bytes_eq-Decides}
use Rattle.toml.specs.Data.{Data, Members}
use Rattle.branch_tree.specs.declared.branch.Branch.{Branch}
use Rattle.branch_tree.specs.Stops.{same_kind}
use Rattle.branch_tree.specs.Tree.{mixes, mixed_from}
use Rattle.study_file.proofs.KeyLists.{any-map}
use Rattle.study_rules.specs.Entries.{parent_in, is_timed, stop_in}
use Rattle.study_rules.specs.BranchRules.{place_named, is_alike, is_unlike, has_stop}
use Rattle.study_rules.specs.Scope.{Scope}
use Rattle.study_rules.specs.Branches.{number_named, stop_from, branch_of}
use Rattle.study_rules.proofs.Beside.{AllBeside, Each}
use Rattle.study_rules.proofs.Parents.{name_at, IsKnown}
use Rattle.study_rules.proofs.StopRanges.{stop-kind}
use Rattle.study_rules.proofs.Tests.{if-fail, not-true}
use Rattle.branch_tree.proofs.TreeLemmas.{neither as or-false}

-- branches of one number have one name

abbrev number_at : Option ℕ → ℕ
number_at o = elim o [ None ↦ 0 | Some i ↦ i + 1 ]

same-place : (o p : Option ℕ) → (number_at o == number_at p) ≡ true → o ≡ p
same-place None None h = refl
same-place None (Some j) h = absurd (grind (arith, nat_tests, h))
same-place (Some i) None h = absurd (grind (arith, nat_tests, h))
same-place (Some i) (Some j) h = let e : i ≡ j = grind (arith, nat_tests, h) in ap Some e

same-parent : (whole : List Data) (x d : Data) → IsKnown whole x → IsKnown whole d
    → (number_named whole (parent_in x) == number_named whole (parent_in d)) ≡ true → parent_in x ≡ parent_in d
same-parent whole x d known-x known-d h =
    sym known-x ∙ ap (name_at whole) (same-place (place_named whole (parent_in x)) (place_named whole (parent_in d)) h) ∙ known-d

other-parent : (whole : List Data) (x d : Data) → IsKnown whole x → IsKnown whole d → bytes_eq (parent_in x) (parent_in d) ≡ false
    → (number_named whole (parent_in x) == number_named whole (parent_in d)) ≡ false
other-parent whole x d known-x known-d h =
    elim (cases_Bool (number_named whole (parent_in x) == number_named whole (parent_in d))) [
      | inl is ↦ absurd (false≢true (sym h ∙ (bytes_eq-Decides (parent_in x) (parent_in d)).1 (same-parent whole x d known-x known-d is)))
      | inr is ↦ is
    ]

-- one branch beside another

alike-kinds : (one other : Bool) (z w : ℤ) → same_kind (stop_from one z) (stop_from other w) ≡ is_alike one other
alike-kinds true true z w = refl
alike-kinds true false z w = refl
alike-kinds false true z w = refl
alike-kinds false false z w = refl

and-apart : (names numbers kinds : Bool) → (names && kinds) ≡ false → (names ≡ false → numbers ≡ false) → (numbers && kinds) ≡ false
and-apart true true kinds h f = h
and-apart true false kinds h f = refl
and-apart false true kinds h f = absurd (cc (f refl))
and-apart false false kinds h f = refl

mixes-none : (scope : Scope) (whole : List Data) (x d : Data) → IsKnown whole x → IsKnown whole d → is_unlike d x ≡ false
    → mixes (branch_of scope whole x) (branch_of scope whole d) ≡ false
mixes-none scope whole x d known-x known-d h =
    ap (λ b. (number_named whole (parent_in x) == number_named whole (parent_in d)) && not b) (alike-kinds (is_timed x) (is_timed d) (stop_in x) (stop_in d))
    ∙ and-apart (bytes_eq (parent_in x) (parent_in d)) (number_named whole (parent_in x) == number_named whole (parent_in d))
    (not (is_alike (is_timed x) (is_timed d))) h (other-parent whole x d known-x known-d)

-- one branch beside those before it

none-mixed : (scope : Scope) (whole xs : List Data) (d : Data) → Each (λ x. IsKnown whole x) xs → IsKnown whole d → list_any (is_unlike d) xs ≡ false
    → list_any (λ x. mixes (branch_of scope whole x) (branch_of scope whole d)) xs ≡ false
none-mixed scope whole [] d known known-d h = refl
none-mixed scope whole (x ∷ xs) d known known-d h =
    let parts = or-false (is_unlike d x) (list_any (is_unlike d) xs) h in
    ap (λ b. b || list_any (λ y. mixes (branch_of scope whole y) (branch_of scope whole d)) xs) (mixes-none scope whole x d known.0 known-d parts.0)
    ∙ none-mixed scope whole xs d known.1 known-d parts.1

each-append : {X : Type 0} (P : X → Type 0) (xs : List X) (y : X) → Each P xs → P y → Each P (xs ++ y ∷ [])
each-append P [] y h here = (here, tt)
each-append P (x ∷ xs) y h here = (h.0, each-append P xs y h.1 here)

pub mixed-none : (t : Members) (scope : Scope) (whole before ds : List Data) (k : ℕ) → Each (λ x. IsKnown whole x) before → Each (λ x. IsKnown whole x) ds
    → AllBeside (has_stop t whole) before ds → mixed_from (map (branch_of scope whole) before) k (map (branch_of scope whole) ds) ≡ None
mixed-none t scope whole before [] k known ahead h = refl
mixed-none t scope whole before (d ∷ ds) k known ahead h =
    let alike : list_any (is_unlike d) before ≡ false = not-true (list_any (is_unlike d) before) (stop-kind t whole before d h.0) in
    let apart : list_any (λ (a : Branch). mixes a (branch_of scope whole d)) (map (branch_of scope whole) before) ≡ false
    = any-map (branch_of scope whole) (λ (a : Branch). mixes a (branch_of scope whole d)) before
    ∙ none-mixed scope whole before d known ahead.0 alike in
    if-fail (list_any (λ (a : Branch). mixes a (branch_of scope whole d)) (map (branch_of scope whole) before)) (Some k)
    (mixed_from (map (branch_of scope whole) before ++ branch_of scope whole d ∷ []) (k + 1) (map (branch_of scope whole) ds)) apart
    ∙ ap (λ bs. mixed_from bs (k + 1) (map (branch_of scope whole) ds)) (sym (map-append (branch_of scope whole) before (d ∷ [])))
    ∙ mixed-none t scope whole (before ++ d ∷ []) ds (k + 1) (each-append (λ x. IsKnown whole x) before d known ahead.0) ahead.1 h.1
