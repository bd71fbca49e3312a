-- Branches and their edits as one pass reads them.
use Rattle.std.proofs.Common.{◌≡◌, ◌≤◌, ◌+◌, ◌++◌, ℕ, cond, Bool, List, [], ◌∷◌, map, length, Option, None, Some, Ok, Err, All, refl, ap, sym, ◌∙◌, arith, subst}
use Rattle.std.specs.Prelude.{Result, IfOk, not, is_some, unwrap_or}
use Rattle.std.specs.List.{filter_map, cons_option}
use Rattle.std.proofs.lemmas.Iterator.Adapters.{position_from-zero}
use Rattle.std.proofs.lemmas.List.Elements.{All-head, All-tail}
use Rattle.toml.specs.Data.{Data, Members, no_members, as_table}
use Rattle.toml.specs.View.{view}
use Rattle.toml.specs.declared.value.Value.{Value}
use Rattle.market_rules.specs.declared.edit.Edit.{Edit}
use Rattle.branch_tree.specs.declared.branch.Branch.{Branch}
use Rattle.branch_tree.specs.declared.stop.Stop.{Stop}
use Rattle.study_file.specs.Keys.{passes}
use Rattle.study_file.specs.Values.{first_failing}
use Rattle.study_file.proofs.KeyLists.{length-mapped}
use Rattle.study_market.specs.Trial.{failing_from}
use Rattle.study_rules.specs.Entries.{entry_of, branch_entries, edits_in}
use Rattle.study_rules.specs.BranchRules.{first_edit, forms_broken}
use Rattle.study_rules.specs.Scope.{Scope, scope_of}
use Rattle.study_rules.specs.EditRules.{is_edit, edits_broken}
use Rattle.study_rules.specs.Branches.{root_branch, branch_of, branches_of, IsHeaded}
use Rattle.study_rules.proofs.Beside.{append-one}
use Rattle.study_rules.proofs.Walks.{few-edits}

-- entries by what a function says of their tables

said-if : {X : Type 0} (f : Members → Option X) (o : Option Members) → f no_members ≡ None
    → passes (λ m. is_some (f m)) o ≡ is_some (f (unwrap_or o no_members))
said-if f None empty = sym (ap is_some empty)
said-if f (Some m) empty = refl

here : {X : Type 0} (f : Members → Option X) (place : ℕ) (vs : List Value) (v : Value) (rest : List Value) (o : Option X) → f no_members ≡ None
    → vs ≡ v ∷ rest → o ≡ f (entry_of (view v))
    → failing_from (λ m. is_some (f m)) place (map view vs)
    ≡ cond (not (is_some o)) (Some place) (failing_from (λ m. is_some (f m)) (place + 1) (map view rest))
here f place vs v rest o empty same is =
    ap (λ xs. failing_from (λ m. is_some (f m)) place (map view xs)) same
    ∙ ap (λ (b : Bool). cond (not b) (Some place) (failing_from (λ m. is_some (f m)) (place + 1) (map view rest)))
    (said-if f (as_table (view v)) empty ∙ ap is_some (sym is))

-- the first entry says nothing
pub entry-broken : {X : Type 0} (f : Members → Option X) (place : ℕ) (vs : List Value) (v : Value) (rest : List Value) → f no_members ≡ None
    → vs ≡ v ∷ rest → None ≡ f (entry_of (view v)) → Some place ≡ failing_from (λ m. is_some (f m)) place (map view vs)
entry-broken f place vs v rest empty same is = sym (here f place vs v rest None empty same is)

-- it says something
pub entry-kept : {E X : Type 0} (f : Members → Option X) (place : ℕ) (vs : List Value) (v : Value) (rest : List Value) (x : X) (r : Result (Option ℕ) E)
    → f no_members ≡ None → vs ≡ v ∷ rest → Some x ≡ f (entry_of (view v))
    → IfOk r (λ found. found ≡ failing_from (λ m. is_some (f m)) (place + 1) (map view rest))
    → IfOk r (λ found. found ≡ failing_from (λ m. is_some (f m)) place (map view vs))
entry-kept f place vs v rest x (Ok found) empty same is more = more ∙ sym (here f place vs v rest (Some x) empty same is)
entry-kept f place vs v rest x (Err e) empty same is more = tt

entries-here : {X : Type 0} (f : Members → Option X) (vs : List Value) (v : Value) (rest : List Value) (x : X) → vs ≡ v ∷ rest → Some x ≡ f (entry_of (view v))
    → x ∷ filter_map (λ d. f (entry_of d)) (map view rest) ≡ filter_map (λ d. f (entry_of d)) (map view vs)
entries-here f vs v rest x same is =
    ap (λ o. cons_option o (filter_map (λ d. f (entry_of d)) (map view rest))) is
    ∙ sym (ap (λ us. filter_map (λ d. f (entry_of d)) (map view us)) same)

pub entries-said : {E X : Type 0} (f : Members → Option X) (vs : List Value) (v : Value) (rest : List Value) (x : X) (old mid new : List X) (r : Result (Option ℕ) E)
    → vs ≡ v ∷ rest → Some x ≡ f (entry_of (view v)) → mid ≡ old ++ x ∷ []
    → IfOk r (λ found. found ≡ None → new ≡ mid ++ filter_map (λ d. f (entry_of d)) (map view rest))
    → IfOk r (λ found. found ≡ None → new ≡ old ++ filter_map (λ d. f (entry_of d)) (map view vs))
entries-said f vs v rest x old mid new (Ok found) same is grown more =
    λ none. more none
    ∙ ap (λ xs. xs ++ filter_map (λ d. f (entry_of d)) (map view rest)) grown
    ∙ append-one old x (filter_map (λ d. f (entry_of d)) (map view rest))
    ∙ ap (λ xs. old ++ xs) (entries-here f vs v rest x same is)
entries-said f vs v rest x old mid new (Err e) same is grown more = tt

-- a pass over all entries starts at their first
pub from_start : {X : Type 0} (f : Members → Option X) (ds : List Data) → first_failing (λ m. is_some (f m)) ds ≡ failing_from (λ m. is_some (f m)) 0 ds
from_start f ds = position_from-zero (λ (d : Data). not (passes (λ m. is_some (f m)) (as_table d))) ds

-- branches

abbrev branch_with : List ℕ → ℕ → Stop → List Edit → Branch
branch_with name parent stop edits = record { name = name; parent = parent; stop = stop; edits = edits }

pub same-branch : (n m : List ℕ) (p q : ℕ) (s r : Stop) (es fs : List Edit) → n ≡ m → p ≡ q → s ≡ r → es ≡ fs
    → ◌≡◌ {A = Branch} (record { name = n; parent = p; stop = s; edits = es }) (record { name = m; parent = q; stop = r; edits = fs })
same-branch n m p q s r es fs a b c d =
    ap (λ (x : List ℕ). branch_with x p s es) a
    ∙ ap (λ (x : ℕ). branch_with m x s es) b
    ∙ ap (λ (x : Stop). branch_with m q x es) c
    ∙ ap (λ (x : List Edit). branch_with m q r x) d

pub branches-said : {E : Type 0} (f : Data → Branch) (vs : List Value) (v : Value) (rest : List Value) (b : Branch) (old mid new : List Branch) (r : Result (Option ℕ) E)
    → vs ≡ v ∷ rest → b ≡ f (view v) → mid ≡ old ++ b ∷ []
    → IfOk r (λ found. found ≡ None → new ≡ mid ++ map f (map view rest))
    → IfOk r (λ found. found ≡ None → new ≡ old ++ map f (map view vs))
branches-said f vs v rest b old mid new (Ok found) same is grown more =
    λ none. more none
    ∙ ap (λ bs. bs ++ map f (map view rest)) grown
    ∙ append-one old b (map f (map view rest))
    ∙ ap (λ (x : Branch). old ++ x ∷ map f (map view rest)) is
    ∙ sym (ap (λ xs. old ++ map f (map view xs)) same)
branches-said f vs v rest b old mid new (Err x) same is grown more = tt

pub few-here : (vs : List Value) (d : Data) → map view vs ≡ edits_in d → forms_broken (edits_in d) ≡ None → length vs ≤ 16
few-here vs d same forms =
    let count : length (map view vs) ≡ length (edits_in d) = ap length same in
    omega (arith, few-edits (edits_in d) forms, length-mapped view vs, count)

pub headed-first : (vs : List Value) (v : Value) (rest : List Value) → vs ≡ v ∷ rest → All IsHeaded (map view vs) → IsHeaded (view v)
headed-first vs v rest same h = All-head IsHeaded (view v) (map view rest) (subst (λ xs. All IsHeaded (map view xs)) same h)

pub headed-rest : (vs : List Value) (v : Value) (rest : List Value) → vs ≡ v ∷ rest → All IsHeaded (map view vs) → All IsHeaded (map view rest)
headed-rest vs v rest same h = All-tail IsHeaded (view v) (map view rest) (subst (λ xs. All IsHeaded (map view xs)) same h)

-- the pass over all branches
pub pass-place : (t : Members) (scope : Scope) (ds : List Data) (found o : Option ℕ) → scope ≡ scope_of t → ds ≡ branch_entries t
    → found ≡ first_edit (first_failing (is_edit scope)) 0 ds → found ≡ o → edits_broken t ≡ o
pass-place t scope ds found o same all is e =
    sym (is
    ∙ ap (λ (s : Scope). first_edit (first_failing (is_edit s)) 0 ds) same
    ∙ ap (λ xs. first_edit (first_failing (is_edit (scope_of t))) 0 xs) all)
    ∙ e

pub pass-said : (t : Members) (scope : Scope) (ds : List Data) (old new : List Branch) → scope ≡ scope_of t → ds ≡ branch_entries t
    → old ≡ root_branch ∷ [] → new ≡ old ++ map (branch_of scope ds) ds → new ≡ branches_of t
pass-said t scope ds old new same all first is =
    is
    ∙ ap (λ bs. bs ++ map (branch_of scope ds) ds) first
    ∙ ap (λ (s : Scope). root_branch ∷ map (branch_of s ds) ds) same
    ∙ ap (λ xs. root_branch ∷ map (branch_of (scope_of t) xs) xs) all
