-- The branches of a study that keeps the rules make a tree.
use Rattle.std.proofs.Common.{◌≡◌, ◌≤◌, ◌+◌, ◌*◌, ◌++◌, ℕ, suc, nat_le, true, false, List, [], ◌∷◌, map, length, Option, None, Some, refl, ap, sym, ◌∙◌, arith, codes, bytes_eq, add-one}
use Rattle.std.specs.Prelude.{◌||◌, option_map}
use Rattle.std.specs.List.{list_any}
use Rattle.std.proofs.lemmas.Bool.Decides.{nat_tests}
use Rattle.std.proofs.lemmas.List.{map-append}
use Rattle.toml.specs.Data.{Data, Members}
use Rattle.branch_tree.specs.declared.branch.Branch.{Branch}
use Rattle.branch_tree.specs.declared.error.PlanError.{PlanError}
use Rattle.branch_tree.specs.declared.error.PlanError.TheVariants.{ParentNotBefore, StopOutOfRange, TooManyBranches, NameTwice, TooMuchWork, StopsMixed}
use Rattle.branch_tree.specs.Tree.{IsRooted, late_parent, is_in_range, out_from, out_of_range, same_name, repeated_from, repeated_name, mixed_stop, earlier_refusal, too_many, too_much, plan_refusal}
use Rattle.study_file.proofs.KeyLists.{any-map, length-mapped}
use Rattle.study_rules.specs.Entries.{branch_entries, name_in}
use Rattle.study_rules.specs.BranchRules.{has_new_name, has_parent, has_stop, events_of}
use Rattle.study_rules.specs.Scope.{Scope, scope_of}
use Rattle.study_rules.specs.Branches.{root_branch, branch_of, branches_of}
use Rattle.study_rules.proofs.Beside.{AllBeside, all-beside}
use Rattle.study_rules.proofs.Few.{few-branches}
use Rattle.study_market.proofs.Held.{held-unless}
use Rattle.study_rules.proofs.Held.{AreHeld}
use Rattle.study_rules.proofs.StopKinds.{mixed-none}
use Rattle.study_rules.proofs.Parents.{new-name, not-root, late-none, each-known}
use Rattle.study_rules.proofs.StopRanges.{each-stop, out-none, root-in-range}
use Rattle.study_rules.proofs.Tests.{if-pass, if-fail}

-- names are not repeated

repeated-none : (scope : Scope) (whole before ds : List Data) (k : ℕ) → AllBeside has_new_name before ds
    → repeated_from (root_branch ∷ map (branch_of scope whole) before) k (map (branch_of scope whole) ds) ≡ None
repeated-none scope whole before [] k h = refl
repeated-none scope whole before (d ∷ ds) k h =
    let other : list_any (λ (a : Branch). same_name a (branch_of scope whole d)) (root_branch ∷ map (branch_of scope whole) before) ≡ false
    = ap (λ b. bytes_eq (codes "root") (name_in d) || b)
    (any-map (branch_of scope whole) (λ (a : Branch). same_name a (branch_of scope whole d)) before
    ∙ sym (any-map name_in (λ name. bytes_eq name (name_in d)) before))
    ∙ new-name before d h.0 in
    if-fail (list_any (λ (a : Branch). same_name a (branch_of scope whole d)) (root_branch ∷ map (branch_of scope whole) before)) (Some k)
    (repeated_from ((root_branch ∷ map (branch_of scope whole) before) ++ branch_of scope whole d ∷ []) (k + 1) (map (branch_of scope whole) ds)) other
    ∙ ap (λ bs. repeated_from (root_branch ∷ bs) (k + 1) (map (branch_of scope whole) ds)) (sym (map-append (branch_of scope whole) before (d ∷ [])))
    ∙ repeated-none scope whole (before ++ d ∷ []) ds (k + 1) h.1

-- the plan

many-none : (n m : ℕ) → m ≤ 255 → n ≡ m → too_many (suc n) ≡ None
many-none n m le e = if-pass (nat_le (suc n) 256) None (Some (TooManyBranches (suc n))) (grind (arith, nat_tests, le, e))

much-none : (n m events : ℕ) → n ≡ m → nat_le ((m + 1) * events) 4000000 ≡ true → too_much (suc n) events ≡ None
much-none n m events e h =
    if-pass (nat_le (suc n * events) 4000000) None (Some (TooMuchWork (suc n) events))
    (ap (λ k. nat_le (k * events) 4000000) (ap suc e ∙ sym (add-one m)) ∙ h)

all-none : (a b d f : Option ℕ) (c e : Option PlanError) → a ≡ None → b ≡ None → c ≡ None → d ≡ None → e ≡ None → f ≡ None
    → earlier_refusal (option_map ParentNotBefore a) (earlier_refusal (option_map StopOutOfRange b)
    (earlier_refusal c (earlier_refusal (option_map NameTwice d) (earlier_refusal e (option_map StopsMixed f))))) ≡ None
all-none None None None None None None ha hb hc hd he hf = refl
all-none (Some x) b d f c e ha hb hc hd he hf = absurd (cc ha)
all-none None (Some x) d f c e ha hb hc hd he hf = absurd (cc hb)
all-none None None (Some x) f c e ha hb hc hd he hf = absurd (cc hd)
all-none None None None (Some x) c e ha hb hc hd he hf = absurd (cc hf)
all-none None None None None (Some x) e ha hb hc hd he hf = absurd (cc hc)
all-none None None None None None (Some x) ha hb hc hd he hf = absurd (cc he)

pub planned : (t : Members) → AreHeld t → plan_refusal (branches_of t) (events_of t) ≡ None
planned t held =
    let scope = scope_of t in
    let ds = branch_entries t in
    let new : AllBeside has_new_name [] ds = all-beside has_new_name ds held.names in
    let parents : AllBeside has_parent [] ds = all-beside has_parent ds held.parents in
    let stops : AllBeside (has_stop t ds) [] ds = all-beside (has_stop t ds) ds held.stops in
    let count : length (map (branch_of scope ds) ds) ≡ length ds = length-mapped (branch_of scope ds) ds in
    all-none (late_parent (branches_of t)) (out_of_range (events_of t) (branches_of t)) (repeated_name (branches_of t)) (mixed_stop (branches_of t))
    (too_many (length (branches_of t))) (too_much (length (branches_of t)) (events_of t))
    (late-none scope ds [] ds 1 refl refl (not-root [] ds new) parents)
    (if-pass (is_in_range (events_of t) (branches_of t) root_branch)
    (out_from (events_of t) (branches_of t) 1 (map (branch_of scope ds) ds)) (Some 0) (root-in-range (events_of t) (map (branch_of scope ds) ds))
    ∙ out-none t scope ds [] ds 1 (each-stop t ds [] ds stops) stops)
    (many-none (length (map (branch_of scope ds) ds)) (length ds) (few-branches t held.keys) count)
    (repeated-none scope ds [] ds 1 new)
    (much-none (length (map (branch_of scope ds) ds)) (length ds) (events_of t) count
    (held-unless (nat_le ((length ds + 1) * events_of t) 4000000) 0 held.work))
    (mixed-none t scope ds [] ds 1 tt (each-known ds [] ds refl parents) stops)

pub rooted : (t : Members) → IsRooted (branches_of t)
rooted t = record { some = omega arith; parent = refl; stop = refl; edits = refl }
