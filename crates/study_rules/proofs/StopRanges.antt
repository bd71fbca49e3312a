-- Where the rule of stops holds, each stop is in the range that a tree asks.
use Rattle.std.proofs.Common.{◌≡◌, ◌≤◌, ◌++◌, ◌+◌, ℕ, zero, suc, ℤ, pos, negsuc, unsigned_abs, nat_le, Bool, true, false, List, [], ◌∷◌, map, Option, None, Some, refl, ap, ◌∙◌, arith, if◌then◌else◌, add-one}
use Rattle.std.specs.Prelude.{◌&&◌, ◌||◌, not, int_le, slice_index_or}
use Rattle.std.proofs.lemmas.Bool.{and_parts, and_from}
use Rattle.std.proofs.lemmas.Bool.Decides.{nat_tests}
use Rattle.toml.specs.Data.{Data, Members}
use Rattle.branch_tree.specs.declared.branch.Branch.{Branch}
use Rattle.branch_tree.specs.Plan.{no_branch, stop_at}
use Rattle.branch_tree.specs.Stops.{is_within, no_earlier}
use Rattle.branch_tree.specs.Tree.{is_in_range, out_from}
use Rattle.study_file.specs.Values.{is_between}
use Rattle.study_market.specs.MarketRules.{opens_at, closes_at}
use Rattle.study_rules.specs.Entries.{parent_in, is_timed, stop_in}
use Rattle.study_rules.specs.BranchRules.{place_named, timed_named, stop_named, events_of, is_alike, is_stop, is_from_parent, has_kind, has_stop}
use Rattle.study_rules.specs.Scope.{Scope}
use Rattle.study_rules.specs.Branches.{root_branch, number_named, stop_from, stop_of, branch_of}
use Rattle.study_rules.proofs.Beside.{AllBeside, Each}
use Rattle.study_rules.proofs.Tests.{if-pass}

-- what the rule says of one branch

abbrev fits : Bool → ℤ → ℤ → ℕ → ℤ → Bool
fits timed low high events z = if timed then int_le (pos 0) z && is_between low high z else is_between (pos 0) (pos events) z

not-negative : (timed : Bool) (low high : ℤ) (events : ℕ) (z : ℤ) → fits timed low high events z ≡ true → int_le (pos 0) z ≡ true
not-negative true low high events z h = (and_parts (int_le (pos 0) z) (is_between low high z) h).0
not-negative false low high events z h = (and_parts (int_le (pos 0) z) (int_le z (pos events)) h).0

small : (z : ℤ) (events : ℕ) → is_between (pos 0) (pos events) z ≡ true → nat_le (unsigned_abs z) events ≡ true
small (pos n) events h = (and_parts (nat_le 0 n) (nat_le n events) h).1
small (negsuc n) events h = absurd (cc h)

within : (timed : Bool) (low high : ℤ) (events : ℕ) (z : ℤ) → fits timed low high events z ≡ true → is_within events (stop_from timed z) ≡ true
within true low high events z h = refl
within false low high events z h = small z events h

not-less : (w z : ℤ) → int_le (pos 0) w ≡ true → int_le (pos 0) z ≡ true → int_le w z ≡ true → nat_le (unsigned_abs w) (unsigned_abs z) ≡ true
not-less (pos m) (pos n) hw hz h = h
not-less (pos m) (negsuc n) hw hz h = absurd (cc hz)
not-less (negsuc m) z hw hz h = absurd (cc hw)

earlier : (by timed : Bool) (w z : ℤ) → int_le (pos 0) w ≡ true → int_le (pos 0) z ≡ true → (not (is_alike by timed) || int_le w z) ≡ true
    → no_earlier (stop_from by w) (stop_from timed z) ≡ true
earlier true true w z hw hz h = not-less w z hw hz h
earlier true false w z hw hz h = refl
earlier false true w z hw hz h = refl
earlier false false w z hw hz h = not-less w z hw hz h

stop-parts : (t : Members) (whole before : List Data) (d : Data) → has_stop t whole before d ≡ true
    → (is_stop t d ≡ true) × (is_from_parent whole d ≡ true) × (has_kind before d ≡ true)
stop-parts t whole before d h =
    let outer = and_parts (is_stop t d && is_from_parent whole d) (has_kind before d) h in
    let inner = and_parts (is_stop t d) (is_from_parent whole d) outer.0 in
    (inner.0, inner.1, outer.1)

pub stop-kind : (t : Members) (whole before : List Data) (d : Data) → has_stop t whole before d ≡ true → has_kind before d ≡ true
stop-kind t whole before d h = (stop-parts t whole before d h).2

pub each-stop : (t : Members) (whole before ds : List Data) → AllBeside (has_stop t whole) before ds → Each (λ d. is_stop t d ≡ true) ds
each-stop t whole before [] h = tt
each-stop t whole before (d ∷ ds) h = ((stop-parts t whole before d h.0).0, each-stop t whole (before ++ d ∷ []) ds h.1)

-- an event number of an accepted branch is within the most of a run
wider : (z : ℤ) (low high : ℕ) → low ≤ high → is_between (pos 0) (pos low) z ≡ true → is_between (pos 0) (pos high) z ≡ true
wider (pos n) low high le h =
    let parts = and_parts (nat_le 0 n) (nat_le n low) h in
    and_from (nat_le 0 n) (nat_le n high) parts.0 (grind (arith, nat_tests, parts.1, le))
wider (negsuc n) low high le h = absurd (cc h)

few-if : (timed : Bool) (low high : ℤ) (events most : ℕ) (z : ℤ) → events ≤ most → fits timed low high events z ≡ true
    → (timed || is_between (pos 0) (pos most) z) ≡ true
few-if true low high events most z le h = refl
few-if false low high events most z le h = wider z events most le h

pub few-stop : (t : Members) (d : Data) (most : ℕ) → events_of t ≤ most → is_stop t d ≡ true → (is_timed d || is_between (pos 0) (pos most) (stop_in d)) ≡ true
few-stop t d most le h = few-if (is_timed d) (opens_at t) (closes_at t) (events_of t) most (stop_in d) le h

-- the parent's stop

natural-at : (t : Members) (ds : List Data) (i : ℕ) → Each (λ d. is_stop t d ≡ true) ds → int_le (pos 0) (slice_index_or (map stop_in ds) i (pos 0)) ≡ true
natural-at t [] i h = refl
natural-at t (d ∷ ds) zero h = not-negative (is_timed d) (opens_at t) (closes_at t) (events_of t) (stop_in d) h.0
natural-at t (d ∷ ds) (suc i) h = natural-at t ds i h.1

natural-named : (t : Members) (whole : List Data) (o : Option ℕ) → Each (λ d. is_stop t d ≡ true) whole
    → int_le (pos 0) (elim o [ None ↦ pos 0 | Some i ↦ slice_index_or (map stop_in whole) i (pos 0) ]) ≡ true
natural-named t whole None h = refl
natural-named t whole (Some i) h = natural-at t whole i h

stops-at : (scope : Scope) (whole ds : List Data) (i : ℕ)
    → (slice_index_or (map (branch_of scope whole) ds) i no_branch).stop
    ≡ stop_from (slice_index_or (map is_timed ds) i false) (slice_index_or (map stop_in ds) i (pos 0))
stops-at scope whole [] i = refl
stops-at scope whole (d ∷ ds) zero = refl
stops-at scope whole (d ∷ ds) (suc i) = stops-at scope whole ds i

stop-named : (scope : Scope) (whole : List Data) (o : Option ℕ)
    → stop_at (root_branch ∷ map (branch_of scope whole) whole) (elim o [ None ↦ 0 | Some i ↦ i + 1 ])
    ≡ stop_from (elim o [ None ↦ false | Some i ↦ slice_index_or (map is_timed whole) i false ])
    (elim o [ None ↦ pos 0 | Some i ↦ slice_index_or (map stop_in whole) i (pos 0) ])
stop-named scope whole None = refl
stop-named scope whole (Some i) =
    ap (λ m. stop_at (root_branch ∷ map (branch_of scope whole) whole) m) (add-one i) ∙ stops-at scope whole whole i

-- the ranges of all

in-range : (t : Members) (scope : Scope) (whole before : List Data) (d : Data) → Each (λ x. is_stop t x ≡ true) whole
    → has_stop t whole before d ≡ true
    → is_in_range (events_of t) (root_branch ∷ map (branch_of scope whole) whole) (branch_of scope whole d) ≡ true
in-range t scope whole before d all h =
    let parts = stop-parts t whole before d h in
    let name : List ℕ = parent_in d in
    let natural : int_le (pos 0) (stop_in d) ≡ true
    = not-negative (is_timed d) (opens_at t) (closes_at t) (events_of t) (stop_in d) parts.0 in
    let above : no_earlier (stop_at (root_branch ∷ map (branch_of scope whole) whole) (number_named whole name)) (stop_of d) ≡ true
    = ap (λ s. no_earlier s (stop_of d)) (stop-named scope whole (place_named whole name))
    ∙ earlier (timed_named whole name) (is_timed d) (stop_named whole name) (stop_in d)
    (natural-named t whole (place_named whole name) all) natural parts.1 in
    and_from (is_within (events_of t) (stop_of d))
    (no_earlier (stop_at (root_branch ∷ map (branch_of scope whole) whole) (number_named whole name)) (stop_of d))
    (within (is_timed d) (opens_at t) (closes_at t) (events_of t) (stop_in d) parts.0) above

pub out-none : (t : Members) (scope : Scope) (whole before ds : List Data) (k : ℕ) → Each (λ x. is_stop t x ≡ true) whole
    → AllBeside (has_stop t whole) before ds
    → out_from (events_of t) (root_branch ∷ map (branch_of scope whole) whole) k (map (branch_of scope whole) ds) ≡ None
out-none t scope whole before [] k all h = refl
out-none t scope whole before (d ∷ ds) k all h =
    if-pass (is_in_range (events_of t) (root_branch ∷ map (branch_of scope whole) whole) (branch_of scope whole d))
    (out_from (events_of t) (root_branch ∷ map (branch_of scope whole) whole) (k + 1) (map (branch_of scope whole) ds)) (Some k)
    (in-range t scope whole before d all h.0)
    ∙ out-none t scope whole (before ++ d ∷ []) ds (k + 1) all h.1

pub root-in-range : (events : ℕ) (branches : List Branch) → is_in_range events (root_branch ∷ branches) root_branch ≡ true
root-in-range events branches = and_from (nat_le 0 events) (nat_le 0 0) (grind (arith, nat_tests)) refl
