-- How many changes and agents there are, where the rules hold.
use Rattle.std.proofs.Common.{◌≡◌, ◌≤◌, ◌+◌, ◌-◌, ◌==◌, ℕ, suc, ℤ, pos, negsuc, nat_le, unsigned_abs, Bool, true, false, List, [], ◌∷◌, length, Option, None, Some, refl, arith, if◌then◌else◌}
use Rattle.std.specs.Prelude.{◌||◌, not}
use Rattle.std.proofs.lemmas.Bool.{and_parts}
use Rattle.std.proofs.lemmas.Bool.Decides.{nat_tests}
use Rattle.std.proofs.lemmas.Option.{same_Some}
use Rattle.toml.specs.Data.{Data, Members}
use Rattle.study_file.specs.Values.{is_between}
use Rattle.study_market.specs.ChangeRules.{changes, change_keys_broken, is_change, first_no_change}
use Rattle.study_market.specs.AgentRules.{agents, count_in, left_after, first_too_many, counts_broken}

not-last : (place : ℕ) (b : Bool) → place ≤ 1024 → (place == 1024 || b) ≡ false → place + 1 ≤ 1024
not-last place true le h = grind (arith, nat_tests, le, h)
not-last place false le h = grind (arith, nat_tests, le, h)

changes-if : (b : Bool) (place : ℕ) (d : Data) (ds : List Data) → place ≤ 1024 → (place == 1024 || not (is_change d)) ≡ b
    → ((place + 1 ≤ 1024) → first_no_change (place + 1) ds ≡ None → place + 1 + length ds ≤ 1024)
    → (if b then Some place else first_no_change (place + 1) ds) ≡ None → place + suc (length ds) ≤ 1024
changes-if true place d ds le e more h = absurd (cc h)
changes-if false place d ds le e more h = let fewer : place + 1 + length ds ≤ 1024 = more (not-last place (not (is_change d)) le e) h in omega (arith, fewer)

few-from : (place : ℕ) (ds : List Data) → place ≤ 1024 → first_no_change place ds ≡ None → place + length ds ≤ 1024
few-from place [] le h = omega (arith, le)
few-from place (d ∷ ds) le h =
    changes-if (place == 1024 || not (is_change d)) place d ds le refl (λ room none. few-from (place + 1) ds room none) h

pub few-changes : (t : Members) → change_keys_broken t ≡ None → length (changes t) ≤ 1024
few-changes t h = let few : 0 + length (changes t) ≤ 1024 = few-from 0 (changes t) (omega arith) h in omega (arith, few)

one-less : (n : ℤ) (left : ℕ) → is_between (pos 1) (pos left) n ≡ true → left - unsigned_abs n + 1 ≤ left
one-less (pos k) left h =
    let parts : (nat_le 1 k ≡ true) × (nat_le k left ≡ true) = and_parts (nat_le 1 k) (nat_le k left) h in
    grind (arith, nat_tests, parts.0, parts.1)
one-less (negsuc k) left h = absurd (cc h)

less-if : (b : Bool) (k : ℤ) (left n : ℕ) → is_between (pos 1) (pos left) k ≡ b
    → (if b then Some (left - unsigned_abs k) else None) ≡ Some n → n + 1 ≤ left
less-if true k left n e h = let same : left - unsigned_abs k ≡ n = same_Some _ _ h in omega (arith, same, one-less k left e)
less-if false k left n e h = absurd (cc h)

less-of : (o : Option ℤ) (left n : ℕ)
    → elim o [ None ↦ None | Some k ↦ if is_between (pos 1) (pos left) k then Some (left - unsigned_abs k) else None ] ≡ Some n
    → n + 1 ≤ left
less-of None left n h = absurd (cc h)
less-of (Some k) left n h = less-if (is_between (pos 1) (pos left) k) k left n refl h

enough-step : (o : Option ℕ) (left place : ℕ) (d : Data) (ds : List Data) → left_after left d ≡ o
    → ((rest : ℕ) → first_too_many rest (place + 1) ds ≡ None → length ds ≤ rest)
    → ◌≡◌ {A = Option ℕ} (elim o [ None ↦ Some place | Some rest ↦ first_too_many rest (place + 1) ds ]) None → suc (length ds) ≤ left
enough-step None left place d ds e more h = absurd (cc h)
enough-step (Some rest) left place d ds e more h =
    let fewer : length ds ≤ rest = more rest h in
    let less : rest + 1 ≤ left = less-of (count_in d) left rest e in
    omega (arith, fewer, less)

enough : (left place : ℕ) (ds : List Data) → first_too_many left place ds ≡ None → length ds ≤ left
enough left place [] h = omega arith
enough left place (d ∷ ds) h = enough-step (left_after left d) left place d ds refl (λ rest none. enough rest (place + 1) ds none) h

enough-if : (b : Bool) (ds : List Data) → (if b then Some 0 else first_too_many 511 0 ds) ≡ None → length ds ≤ 511
enough-if true ds h = absurd (cc h)
enough-if false ds h = enough 511 0 ds h

pub few-agents : (t : Members) → counts_broken t ≡ None → length (agents t) ≤ 511
few-agents t h = enough-if (length (agents t) == 0) (agents t) h
