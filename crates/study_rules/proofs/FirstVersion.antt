-- In version 1 a branch has no time.
use Rattle.std.proofs.Common.{◌≡◌, ◌∙◌, ◌+◌, ◌==◌, ℕ, suc, Bool, true, false, List, [], ◌∷◌, map, Option, None, Some, All, unwrap_or, refl, sym, ap, subst, codes, bytes_eq, inl, inr, if◌then◌else◌}
use Rattle.std.specs.Prelude.{◌||◌, not, is_some, is_none, option_map, option_and_then, position}
use Rattle.std.specs.Option.{option_or}
use Rattle.std.specs.List.{list_any}
use Rattle.std.specs.Ordering.{nat_cmp, is_eq, match_ordering}
use Rattle.std.specs.declared.cmp.Ordering.{Ordering}
use Rattle.std.specs.declared.cmp.Ordering.TheVariants.{Less, Equal, Greater}
use Rattle.std.specs.Cmp.Lexicographic.{slice_cmp}
use Rattle.std.proofs.lemmas.Bool.{and_parts, false≢true}
use Rattle.std.proofs.lemmas.List.Elements.{All-nil, All-cons}
use Rattle.std.proofs.lemmas.Map.Text.{is_eq-slice_cmp}
use Rattle.toml.specs.Data.{Data, Members, no_members, member, as_integer, as_table, get_member}
use Rattle.branch_tree.specs.declared.branch.Branch.{Branch}
use Rattle.branch_tree.specs.Stops.{is_time}
use Rattle.study_file.specs.Keys.{KeyRule, key_holds, has_no_other, has_keys, passes}
use Rattle.study_file.specs.Tables.{integer_at}
use Rattle.study_rules.specs.Forms.{branch_keys}
use Rattle.study_rules.specs.Entries.{branch_entries, is_timed, stop_in}
use Rattle.study_rules.specs.BranchRules.{has_times, has_branch_keys, is_branch, first_no_branch, branch_keys_broken}
use Rattle.study_rules.specs.Scope.{Scope, scope_of}
use Rattle.study_rules.specs.Branches.{root_branch, stop_from, branch_of, branches_of}
use Rattle.study_rules.proofs.Beside.{not-false}
use Rattle.study_rules.proofs.Tests.{or-true}
use Rattle.study_rules.proofs.Texts.{same-bytes}
use Rattle.branch_tree.proofs.TreeLemmas.{neither as or-false}

-- a table with no key but those of a branch of version 1 has no time

abbrev at_keys : List KeyRule
at_keys = branch_keys (codes "at")

known-name : (name : List ℕ) → list_any (λ (k : KeyRule). bytes_eq k.name name) at_keys ≡ true → slice_cmp nat_cmp (codes "when") name ≡ Equal → ⊥
known-name name h e =
    let same : codes "when" ≡ name = same-bytes (codes "when") name (sym (is_eq-slice_cmp (codes "when") name) ∙ ap is_eq e) in
    false≢true (subst (λ n. list_any (λ (k : KeyRule). bytes_eq k.name n) at_keys ≡ true) (sym same) h)

absent-if : (o : Ordering) (d : Data) (rest : Option Data) → (o ≡ Equal → ⊥) → rest ≡ None → match_ordering o rest (Some d) rest ≡ None
absent-if Less d rest f h = h
absent-if Equal d rest f h = absurd (f refl)
absent-if Greater d rest f h = h

no-when : (m : Members) → has_no_other at_keys m ≡ true → get_member (codes "when") m ≡ None
no-when no_members h = refl
no-when (member name value rest) h =
    let parts = and_parts (list_any (λ (k : KeyRule). bytes_eq k.name name) at_keys) (has_no_other at_keys rest) h in
    absent-if (slice_cmp nat_cmp (codes "when") name) value (get_member (codes "when") rest) (known-name name parts.0) (no-when rest parts.1)

no-other : (o : Option ℕ) (b : Bool) → is_none (option_or (option_map suc o) (if b then None else Some 99)) ≡ true → b ≡ true
no-other None true h = refl
no-other None false h = absurd (cc h)
no-other (Some n) b h = absurd (cc h)

-- so a branch of version 1 has none

not-timed-in : (o : Option Members) → passes (has_branch_keys false) o ≡ true → is_some (integer_at (codes "when") (unwrap_or o no_members)) ≡ false
not-timed-in None h = absurd (cc h)
not-timed-in (Some m) h = elim (or-true (has_keys [] at_keys m) false h) [
  | inl is ↦ ap (λ x. is_some (option_and_then as_integer x)) (no-when m (no-other (position (λ key. not (key_holds m key)) at_keys) (has_no_other at_keys m) is))
  | inr is ↦ absurd (false≢true is)
]

not-timed : (d : Data) → is_branch false d ≡ true → is_timed d ≡ false
not-timed d h = not-timed-in (as_table d) h

-- and so have all

none-if-not : (b : Bool) (place : ℕ) (o : Option ℕ) → (if b then Some place else o) ≡ None → (b ≡ false) × (o ≡ None)
none-if-not true place o h = absurd (cc h)
none-if-not false place o h = (refl, h)

by-number : (scope : Scope) (whole ds : List Data) (place : ℕ) → first_no_branch false place ds ≡ None
    → All (λ (b : Branch). is_time b.stop ≡ false) (map (branch_of scope whole) ds)
by-number scope whole [] place h = All-nil (λ (b : Branch). is_time b.stop ≡ false)
by-number scope whole (d ∷ ds) place h =
    let parts = none-if-not (place == 127 || not (is_branch false d)) place (first_no_branch false (place + 1) ds) h in
    let keys : is_branch false d ≡ true = not-false (is_branch false d) (or-false (place == 127) (not (is_branch false d)) parts.0).1 in
    All-cons (λ (b : Branch). is_time b.stop ≡ false) (branch_of scope whole d) (map (branch_of scope whole) ds)
    (ap (λ timed. is_time (stop_from timed (stop_in d))) (not-timed d keys)) (by-number scope whole ds (place + 1) parts.1)

pub no-times : (t : Members) → has_times t ≡ false → branch_keys_broken t ≡ None → All (λ (b : Branch). is_time b.stop ≡ false) (branches_of t)
no-times t version keys =
    All-cons (λ (b : Branch). is_time b.stop ≡ false) root_branch (map (branch_of (scope_of t) (branch_entries t)) (branch_entries t)) refl
    (by-number (scope_of t) (branch_entries t) (branch_entries t) 0 (subst (λ times. first_no_branch times 0 (branch_entries t) ≡ None) version keys))
