-- The edits of a script's acts can be made at the opening.
use Rattle.std.proofs.Common.{◌≡◌, ◌<◌, ◌≤◌, ◌&&◌, Bool, true, false, ℕ, List, [], length, get_or, Option, None, Some, All, refl, subst, arith, codes, if◌then◌else◌}
use Rattle.std.specs.Prelude.{option_map, is_none, not}
use Rattle.std.specs.Int.{is_in_range}
use Rattle.std.specs.List.{filter_map}
use Rattle.std.proofs.lemmas.Bool.{and_parts}
use Rattle.std.proofs.lemmas.Bool.Decides.{nat_tests}
use Rattle.std.proofs.lemmas.Option.{same_Some}
use Rattle.toml.specs.Data.{Data, Members, no_members, table}
use Rattle.market_rules.specs.declared.edit.Edit.{Edit}
use Rattle.market_floor.specs.declared.opening.Opening.{Opening}
use Rattle.kernel_copy.specs.Courses.{CourseTold, AreEdits}
use Rattle.study_file.specs.Keys.{has_form, has_keys}
use Rattle.study_file.specs.Values.{list_at, first_failing}
use Rattle.study_market.specs.ChangeRules.{is_kind}
use Rattle.study_rules.specs.Entries.{entry_of}
use Rattle.study_rules.specs.BranchRules.{forms_broken}
use Rattle.study_rules.specs.Scope.{scope_of_opening}
use Rattle.study_rules.specs.EditRules.{◌>>=◌, edit_in as edit_of, is_edit, edit_list_in}
use Rattle.study_rules.proofs.OpeningScopes.{list-fits}
use Rattle.session_desk.specs.declared.act.Act.{Act}
use Rattle.session_desk.specs.declared.act.Act.TheVariants as act
use Rattle.session_desk.specs.Forms.{script_keys, act_form}
use Rattle.session_desk.specs.Acts.{name_in, new_name_in, event_in, edits_in, fork_in, edit_in, rewind_in, close_in, values_in, act_of_kind, act_in}
use Rattle.session_desk.specs.Script.{act_entries, is_script, is_fit, forks_by_time}
use Rattle.session_desk.specs.Fitting.{FitsOpening}
use Rattle.session_desk.specs.Told.{AreSaidBy, IsFirstBad}

-- steps that give a value

bind-some : {A B : Type 0} (o : Option A) (f : A → Option B) (y : B) (P : Type 0)
    → ((a : A) → o ≡ Some a → f a ≡ Some y → P) → (o >>= f) ≡ Some y → P
bind-some None f y P more h = absurd (cc h)
bind-some (Some a) f y P more h = more a refl h

map-some : {A B : Type 0} (o : Option A) (f : A → B) (y : B) (P : Type 0)
    → ((a : A) → o ≡ Some a → f a ≡ y → P) → option_map f o ≡ Some y → P
map-some None f y P more h = absurd (cc h)
map-some (Some a) f y P more h = more a refl (same_Some _ _ h)

guarded : {A : Type 0} (b : Bool) (v x : A) → (if b then Some v else None) ≡ Some x → (b ≡ true) × (v ≡ x)
guarded true v x h = (refl, same_Some _ _ h)
guarded false v x h = absurd (cc h)

either : {A : Type 0} (b : Bool) (o p : Option A) (x : A) (P : Type 0) → (o ≡ Some x → P) → (p ≡ Some x → P)
    → (if b then o else p) ≡ Some x → P
either true o p x P f g h = f h
either false o p x P f g h = g h

nothing : {A : Type 0} (x : A) (P : Type 0) → ◌≡◌ {A = Option A} None (Some x) → P
nothing x P h = absurd (cc h)

none-is : (o : Option ℕ) → is_none o ≡ true → o ≡ None
none-is None h = refl
none-is (Some n) h = absurd (cc h)

-- the edits of an act

list-can : (o : Opening) (ds : List Data) (es : List Edit) → edit_list_in (scope_of_opening o) ds ≡ Some es → AreEdits o es
list-can o ds es h =
    let parts = guarded (is_none (forms_broken ds) && is_none (first_failing (is_edit (scope_of_opening o)) ds))
    (filter_map (λ d. edit_of (scope_of_opening o) (entry_of d)) ds) es h in
    let forms = and_parts (is_none (forms_broken ds)) (is_none (first_failing (is_edit (scope_of_opening o)) ds)) parts.0 in
    subst (AreEdits o) parts.1 (list-fits o ds (none-is (forms_broken ds) forms.0))

-- each kind of act

fork-fits : (o : Opening) (t : Members) (a : Act) → fork_in (scope_of_opening o) t ≡ Some a → FitsOpening o a
fork-fits o t a h =
    bind-some (new_name_in t) _ a (FitsOpening o a) (λ name is-name rest-1.
    bind-some (name_in (codes "parent") t) _ a (FitsOpening o a) (λ parent is-parent rest-2.
    bind-some (event_in (codes "at") t) _ a (FitsOpening o a) (λ at is-at rest-3.
    bind-some (edits_in (scope_of_opening o) t) (λ edits. Some (act.Fork name parent at edits)) a (FitsOpening o a) (λ edits are rest-4.
    subst (FitsOpening o) (same_Some (act.Fork name parent at edits) a rest-4) (list-can o (list_at (codes "edit") t) edits are)) rest-3) rest-2) rest-1) h

edit-fits : (o : Opening) (t : Members) (a : Act) → edit_in (scope_of_opening o) t ≡ Some a → FitsOpening o a
edit-fits o t a h =
    bind-some (name_in (codes "name") t) _ a (FitsOpening o a) (λ name is-name rest-1.
    bind-some (edits_in (scope_of_opening o) t) (λ edits. Some (act.Edit name edits)) a (FitsOpening o a) (λ edits are rest-2.
    subst (FitsOpening o) (same_Some (act.Edit name edits) a rest-2) (list-can o (list_at (codes "edit") t) edits are)) rest-1) h

rewind-fits : (o : Opening) (t : Members) (a : Act) → rewind_in t ≡ Some a → FitsOpening o a
rewind-fits o t a h =
    bind-some (name_in (codes "name") t) _ a (FitsOpening o a) (λ name is-name rest-1.
    bind-some (event_in (codes "event") t) (λ event. Some (act.Rewind name event)) a (FitsOpening o a) (λ event is-event rest-2.
    subst (FitsOpening o) (same_Some (act.Rewind name event) a rest-2) tt) rest-1) h

close-fits : (o : Opening) (t : Members) (a : Act) → close_in t ≡ Some a → FitsOpening o a
close-fits o t a h =
    map-some (name_in (codes "name") t) act.Close a (FitsOpening o a) (λ name is-name is. subst (FitsOpening o) is tt) h

values-fits : (o : Opening) (t : Members) (a : Act) → values_in t ≡ Some a → FitsOpening o a
values-fits o t a h =
    map-some (name_in (codes "name") t) act.Values a (FitsOpening o a) (λ name is-name is. subst (FitsOpening o) is tt) h

undo-fits : (o : Opening) (a : Act) → ◌≡◌ {A = Option Act} (Some act.Undo) (Some a) → FitsOpening o a
undo-fits o a h = subst (FitsOpening o) (same_Some act.Undo a h) tt

kind-fits : (o : Opening) (t : Members) (a : Act) → act_of_kind (scope_of_opening o) t ≡ Some a → FitsOpening o a
kind-fits o t a h =
    either (is_kind (codes "fork") t) _ _ a (FitsOpening o a) (fork-fits o t a) (
    either (is_kind (codes "undo") t) _ _ a (FitsOpening o a) (undo-fits o a) (
    either (is_kind (codes "edit") t) _ _ a (FitsOpening o a) (edit-fits o t a) (
    either (is_kind (codes "rewind") t) _ _ a (FitsOpening o a) (rewind-fits o t a) (
    either (is_kind (codes "close") t) _ _ a (FitsOpening o a) (close-fits o t a) (
    either (is_kind (codes "values") t) _ _ a (FitsOpening o a) (values-fits o t a) (nothing a (FitsOpening o a))))))) h

act-fits : (o : Opening) (t : Members) (a : Act) → act_in (scope_of_opening o) t ≡ Some a → FitsOpening o a
act-fits o t a h =
    either (has_form act_form t) (act_of_kind (scope_of_opening o) t) None a (FitsOpening o a) (kind-fits o t a) (nothing a (FitsOpening o a)) h

-- all acts

no-entry : Data
no-entry = table no_members

pub all-fit : (c : CourseTold) (t : Members) (acts : List Act) → AreSaidBy c t acts → All (FitsOpening c.opening) acts
all-fit c t acts said = λ k a within.
    let there : k < length (act_entries t) = omega (arith, within, said.count) in
    act-fits c.opening (entry_of (get_or (act_entries t) k no-entry)) (get_or acts k a) (said.each k no-entry a there)

fit-count : (c : CourseTold) (t : Members) → is_fit c t ≡ true → is_in_range 1 64 (length (act_entries t)) ≡ true
fit-count c t fit =
    let whole = and_parts (is_script t) (not (forks_by_time c)) fit in
    (and_parts (has_keys [] script_keys t) (is_in_range 1 64 (length (act_entries t))) whole.0).1

pub how-many : (c : CourseTold) (t : Members) (acts : List Act) → AreSaidBy c t acts → (1 ≤ length acts) × (length acts ≤ 64)
how-many c t acts said =
    let count = fit-count c t said.whole in
    (grind (arith, nat_tests, count, said.count), grind (arith, nat_tests, count, said.count))

bad-if : (c : CourseTold) (t : Members) (n : ℕ) → IsFirstBad c t n → (fit : Bool) → is_fit c t ≡ fit → n ≤ 64
bad-if c t n first true fit =
    let count = fit-count c t fit in
    let below : n < length (act_entries t) = (first.there fit no-entry).0 in
    grind (arith, nat_tests, count, below)
bad-if c t n first false fit = let is : n ≡ 64 = first.whole fit in omega (arith, is)

pub bad-low : (c : CourseTold) (t : Members) (n : ℕ) → IsFirstBad c t n → n ≤ 64
bad-low c t n first = bad-if c t n first (is_fit c t) refl
