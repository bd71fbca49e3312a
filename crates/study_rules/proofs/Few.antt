-- How many branches and traders there are, where the rules hold.
use Rattle.std.proofs.Common.{◌≡◌, ◌≤◌, ◌+◌, ◌-◌, ◌==◌, ℕ, suc, ℤ, pos, negsuc, nat_le, unsigned_abs, Bool, true, false, List, [], ◌∷◌, length, replicate, Option, None, Some, refl, ap, ◌∙◌, arith, if◌then◌else◌, codes, length-append}
use Rattle.std.specs.Prelude.{◌||◌, not, unwrap_or, option_and_then}
use Rattle.std.proofs.lemmas.Bool.{and_parts}
use Rattle.std.proofs.lemmas.Bool.Decides.{nat_tests}
use Rattle.std.proofs.lemmas.Option.{same_Some}
use Rattle.std.proofs.lemmas.List.{length-replicate}
use Rattle.toml.specs.Data.{Data, Members, no_members, as_integer, as_table, get_member}
use Rattle.study_file.specs.Values.{is_between, string_at}
use Rattle.study_market.specs.AgentRules.{agents, count_found, count_in, count_of, left_after, first_too_many, counts_broken}
use Rattle.study_rules.specs.Entries.{entry_of, branch_entries}
use Rattle.study_rules.specs.BranchRules.{has_times, most_branches, is_branch, first_no_branch, branch_keys_broken}
use Rattle.study_rules.specs.Scope.{kinds_of}

pub most-few : (times : Bool) → most_branches times ≤ 255
most-few true = omega arith
most-few false = omega arith

not-last : (most place : ℕ) (b : Bool) → place ≤ most → (place == most || b) ≡ false → place + 1 ≤ most
not-last most place true le h = grind (arith, nat_tests, le, h)
not-last most place false le h = grind (arith, nat_tests, le, h)

branches-if : (times b : Bool) (place : ℕ) (d : Data) (ds : List Data) → place ≤ most_branches times → (place == most_branches times || not (is_branch times d)) ≡ b
    → ((place + 1 ≤ most_branches times) → first_no_branch times (place + 1) ds ≡ None → place + 1 + length ds ≤ most_branches times)
    → (if b then Some place else first_no_branch times (place + 1) ds) ≡ None → place + suc (length ds) ≤ most_branches times
branches-if times true place d ds le e more h = absurd (cc h)
branches-if times false place d ds le e more h =
    let fewer : place + 1 + length ds ≤ most_branches times = more (not-last (most_branches times) place (not (is_branch times d)) le e) h in
    omega (arith, fewer)

few-from : (times : Bool) (place : ℕ) (ds : List Data) → place ≤ most_branches times → first_no_branch times place ds ≡ None
    → place + length ds ≤ most_branches times
few-from times place [] le h = omega (arith, le)
few-from times place (d ∷ ds) le h =
    branches-if times (place == most_branches times || not (is_branch times d)) place d ds le refl
    (λ room none. few-from times (place + 1) ds room none) h

pub few-branches : (t : Members) → branch_keys_broken t ≡ None → length (branch_entries t) ≤ 255
few-branches t h =
    let times : Bool = has_times t in
    let few : 0 + length (branch_entries t) ≤ most_branches times = few-from times 0 (branch_entries t) (omega arith) h in
    omega (arith, few, most-few times)

-- the count of an entry, where it is a number
count-found : (o : Option Data) (n : ℤ) → count_found o ≡ Some n → unsigned_abs (unwrap_or (option_and_then as_integer o) (pos 1)) ≡ unsigned_abs n
count-found None n h = ap unsigned_abs (same_Some _ _ h)
count-found (Some d) n h = ap (λ o. unsigned_abs (unwrap_or o (pos 1))) h

count-same : (o : Option Members) (n : ℤ) → option_and_then (λ t. count_found (get_member (codes "count") t)) o ≡ Some n
    → count_of (unwrap_or o no_members) ≡ unsigned_abs n
count-same None n h = absurd (cc h)
count-same (Some t) n h = count-found (get_member (codes "count") t) n h

left-over : (n : ℤ) (left : ℕ) → is_between (pos 1) (pos left) n ≡ true → unsigned_abs n + (left - unsigned_abs n) ≤ left
left-over (pos k) left h =
    let parts : (nat_le 1 k ≡ true) × (nat_le k left ≡ true) = and_parts (nat_le 1 k) (nat_le k left) h in
    grind (arith, nat_tests, parts.1)
left-over (negsuc k) left h = absurd (cc h)

left-if : (b : Bool) (n : ℤ) (left rest : ℕ) → is_between (pos 1) (pos left) n ≡ b
    → (if b then Some (left - unsigned_abs n) else None) ≡ Some rest → unsigned_abs n + rest ≤ left
left-if true n left rest e h =
    let same : left - unsigned_abs n ≡ rest = same_Some _ _ h in
    omega (arith, same, left-over n left e)
left-if false n left rest e h = absurd (cc h)

left-of : (o : Option ℤ) (d : Data) (left rest : ℕ) → count_in d ≡ o
    → elim o [ None ↦ None | Some n ↦ if is_between (pos 1) (pos left) n then Some (left - unsigned_abs n) else None ] ≡ Some rest
    → count_of (entry_of d) + rest ≤ left
left-of None d left rest e h = absurd (cc h)
left-of (Some n) d left rest e h =
    let same : count_of (entry_of d) ≡ unsigned_abs n = count-same (as_table d) n e in
    let room : unsigned_abs n + rest ≤ left = left-if (is_between (pos 1) (pos left) n) n left rest refl h in
    omega (arith, same, room)

pub kinds-count : (d : Data) (ds : List Data)
    → length (kinds_of (d ∷ ds)) ≡ count_of (entry_of d) + length (kinds_of ds)
kinds-count d ds =
    length-append (replicate (count_of (entry_of d)) (string_at (codes "kind") (entry_of d))) (kinds_of ds)
    ∙ ap (λ n. n + length (kinds_of ds)) (length-replicate (count_of (entry_of d)) (string_at (codes "kind") (entry_of d)))

kinds-step : (o : Option ℕ) (left place : ℕ) (d : Data) (ds : List Data) → left_after left d ≡ o
    → ((rest : ℕ) → first_too_many rest (place + 1) ds ≡ None → length (kinds_of ds) ≤ rest)
    → ◌≡◌ {A = Option ℕ} (elim o [ None ↦ Some place | Some rest ↦ first_too_many rest (place + 1) ds ]) None
    → length (kinds_of (d ∷ ds)) ≤ left
kinds-step None left place d ds e more h = absurd (cc h)
kinds-step (Some rest) left place d ds e more h =
    let fewer : length (kinds_of ds) ≤ rest = more rest h in
    let room : count_of (entry_of d) + rest ≤ left = left-of (count_in d) d left rest refl e in
    omega (arith, fewer, room, kinds-count d ds)

kinds-from : (left place : ℕ) (ds : List Data) → first_too_many left place ds ≡ None → length (kinds_of ds) ≤ left
kinds-from left place [] h = omega arith
kinds-from left place (d ∷ ds) h = kinds-step (left_after left d) left place d ds refl (λ rest none. kinds-from rest (place + 1) ds none) h

kinds-if : (b : Bool) (ds : List Data) → (if b then Some 0 else first_too_many 511 0 ds) ≡ None → length (kinds_of ds) ≤ 511
kinds-if true ds h = absurd (cc h)
kinds-if false ds h = kinds-from 511 0 ds h

pub few-kinds : (t : Members) → counts_broken t ≡ None → length (kinds_of (agents t)) ≤ 511
few-kinds t h = kinds-if (length (agents t) == 0) (agents t) h
