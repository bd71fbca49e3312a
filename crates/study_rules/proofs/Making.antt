-- Where the rules of branches hold, each branch has at most 16 edits, which can all be made.
use Rattle.std.proofs.Common.{◌≡◌, ◌≤◌, ◌+◌, ℕ, suc, List, [], ◌∷◌, map, length, Option, None, Some, refl, arith, subst}
use Rattle.std.specs.Prelude.{All}
use Rattle.std.specs.List.{filter_map, cons_option}
use Rattle.std.proofs.lemmas.List.Elements.{All-nil, All-cons}
use Rattle.toml.specs.Data.{Data, Members}
use Rattle.market_rules.specs.declared.edit.Edit.{Edit}
use Rattle.branch_tree.specs.declared.branch.Branch.{Branch}
use Rattle.agent_shell.specs.declared.setting.Kind.{Kind}
use Rattle.study_market.specs.StockRules.{symbols, stocks}
use Rattle.study_market.specs.MarketRules.{size_of}
use Rattle.study_market.specs.AgentRules.{agents}
use Rattle.study_rules.specs.Entries.{entry_of, branch_entries, edits_in}
use Rattle.study_rules.specs.BranchRules.{first_edit, forms_broken}
use Rattle.study_rules.specs.Scope.{Scope, scope_of, kinds_of}
use Rattle.study_rules.specs.EditRules.{edit_in}
use Rattle.study_rules.specs.Branches.{root_branch, branch_of, branches_of}
use Rattle.study_rules.specs.Fitting.{word_of, IsEditAmong, AreEditsAmong}
use Rattle.study_rules.proofs.Walks.{first-held, few-edits}
use Rattle.study_rules.proofs.Held.{AreHeld}
use Rattle.study_rules.proofs.Scopes.{symbols-count}
use Rattle.study_rules.proofs.Fits.{edit-fits}

cons-fewer : {Y : Type 0} (o : Option Y) (ys : List Y) (n : ℕ) → length ys ≤ n → length (cons_option o ys) ≤ suc n
cons-fewer None ys n h = omega (arith, h)
cons-fewer (Some y) ys n h = omega (arith, h)

pub fewer : {X Y : Type 0} (f : X → Option Y) (xs : List X) → length (filter_map f xs) ≤ length xs
fewer f [] = omega arith
fewer f (x ∷ xs) = cons-fewer (f x) (filter_map f xs) (length xs) (fewer f xs)

all-option : {Y : Type 0} (P : Y → Type 0) (o : Option Y) (ys : List Y) → ((y : Y) → o ≡ Some y → P y) → All P ys → All P (cons_option o ys)
all-option P None ys f more = more
all-option P (Some y) ys f more = All-cons P y ys (f y refl) more

pub all-fit : (scope : Scope) (kinds : List Kind) → map word_of kinds ≡ scope.kinds → (ds : List Data)
    → All (λ (e : Edit). IsEditAmong (length scope.stocks) kinds scope.groups e) (filter_map (λ d. edit_in scope (entry_of d)) ds)
all-fit scope kinds same [] = All-nil (λ (e : Edit). IsEditAmong (length scope.stocks) kinds scope.groups e)
all-fit scope kinds same (d ∷ ds) =
    all-option (λ (e : Edit). IsEditAmong (length scope.stocks) kinds scope.groups e) (edit_in scope (entry_of d))
    (filter_map (λ x. edit_in scope (entry_of x)) ds) (λ x h. edit-fits scope kinds (entry_of d) x same h) (all-fit scope kinds same ds)

each-branch : (scope : Scope) (kinds : List Kind) → map word_of kinds ≡ scope.kinds → (whole ds : List Data) (place : ℕ)
    → first_edit forms_broken place ds ≡ None
    → All (λ (b : Branch). AreEditsAmong (length scope.stocks) kinds scope.groups b.edits) (map (branch_of scope whole) ds)
each-branch scope kinds same whole [] place h = All-nil (λ (b : Branch). AreEditsAmong (length scope.stocks) kinds scope.groups b.edits)
each-branch scope kinds same whole (d ∷ ds) place h =
    let parts = first-held forms_broken place d ds h in
    let less = fewer (λ x. edit_in scope (entry_of x)) (edits_in d) in
    let few = few-edits (edits_in d) parts.0 in
    All-cons (λ (b : Branch). AreEditsAmong (length scope.stocks) kinds scope.groups b.edits) (branch_of scope whole d)
    (map (branch_of scope whole) ds)
    (record { few = omega (arith, less, few); fit = all-fit scope kinds same (edits_in d) })
    (each-branch scope kinds same whole ds (place + 16) parts.1)

pub edits-fit : (t : Members) → AreHeld t → (kinds : List Kind) → map word_of kinds ≡ kinds_of (agents t)
    → All (λ (b : Branch). AreEditsAmong (length (stocks t)) kinds (size_of t) b.edits) (branches_of t)
edits-fit t held kinds same =
    subst (λ n. All (λ (b : Branch). AreEditsAmong n kinds (size_of t) b.edits) (branches_of t)) (symbols-count t)
    (All-cons (λ (b : Branch). AreEditsAmong (length (symbols t)) kinds (size_of t) b.edits) root_branch
    (map (branch_of (scope_of t) (branch_entries t)) (branch_entries t))
    (record { few = omega arith; fit = All-nil (λ (e : Edit). IsEditAmong (length (symbols t)) kinds (size_of t) e) })
    (each-branch (scope_of t) kinds same (branch_entries t) (branch_entries t) 0 held.forms))
