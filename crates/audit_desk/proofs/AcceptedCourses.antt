-- What is accepted is a course with named branches, whose edits inject orders that a message can hold.
use Rattle.std.proofs.Common.{◌≡◌, ℕ, ◌≤◌, true, List, [], ◌∷◌, ◌++◌, length, map, All, Option, None, Some, Ok, Err, refl, ap, subst, arith}
use Rattle.std.specs.Prelude.{Result, not}
use Rattle.std.specs.Int.{is_in_range as is_between}
use Rattle.std.specs.List.{list_all}
use Rattle.std.specs.Option.{option_or}
use Rattle.std.specs.Result.{result_unwrap_or}
use Rattle.std.proofs.lemmas.Bool.{and_parts}
use Rattle.std.proofs.lemmas.Bool.Decides.{nat_tests}
use Rattle.std.proofs.lemmas.List.Elements.{All-cons, All-nil}
use Rattle.toml.specs.Data.{Data, Members}
use Rattle.branch_tree.specs.declared.branch.Branch.{Branch}
use Rattle.branch_tree.specs.Names.{IsNameLength, is_name, is_name_byte}
use Rattle.kernel_copy.specs.Courses.{IsCourse}
use Rattle.study_file.specs.Tables.{is_named}
use Rattle.study_market.specs.declared.early_refusal.Refusal.{Refusal}
use Rattle.study_market.specs.FirstBroken.{first_of_rules}
use Rattle.study_market.specs.FirstOfMarket.{early_refusal, first_broken, last_refusal, late_refusal, series_refusal, tables_of}
use Rattle.study_market.specs.Opening.{IsAccepted}
use Rattle.study_market.proofs.Held.{both-none}
use Rattle.study_market.proofs.Openings.{is-opening}
use Rattle.study_rules.specs.Accepted.{StudyTold, course_of, first_refusal, rows_in, study_of, told_of}
use Rattle.study_rules.specs.Branches.{branch_of, branches_of, root_branch}
use Rattle.study_rules.specs.BranchRules.{has_new_name, names_of}
use Rattle.study_rules.specs.Entries.{branch_entries, name_in}
use Rattle.study_rules.specs.FirstBroken.{branch_rules}
use Rattle.study_rules.specs.Scope.{Scope, scope_of}
use Rattle.study_rules.proofs.Beside.{AllBeside, all-beside}
use Rattle.study_rules.proofs.Editing.{edits-fit, kinds-said}
use Rattle.study_rules.proofs.Held.{AreHeld, are-held}
use Rattle.study_rules.proofs.Making.{edits-fit as edits-among}
use Rattle.study_rules.proofs.Planned.{planned, rooted}
use Rattle.market_laws.specs.Texts.{AreMessagesSpelled}
use Rattle.audit_desk.specs.Clipped.{AreNamed}
use Rattle.audit_desk.proofs.Edits.{branches-spelled}

abbrev Answer : Type 0
Answer = Result StudyTold Refusal

same-study : (x y : StudyTold) → ◌≡◌ {A = Answer} (Ok x) (Ok y) → x ≡ y
same-study x y h = ap (λ (r : Answer). result_unwrap_or r x) h

abbrev answered : StudyTold → Option Refusal → Answer
answered told o = elim o [ Some r ↦ Err r | None ↦ Ok told ]

-- no rule is broken where a study is told, and it is the one that the table says
accepted-parts : (t : Members) (series : Option (List ℕ)) (s : StudyTold) → study_of t series ≡ Ok s → (first_refusal t series ≡ None) × (told_of t (rows_in t series) ≡ s)
unfolding study_of
accepted-parts t series s h =
    let told = told_of t (rows_in t series) in
    elim (first_refusal t series) as (λ o. answered told o ≡ Ok s → (o ≡ None) × (told ≡ s)) [
      | Some r ↦ λ e. absurd (cc e)
      | None ↦ λ e. (refl, same-study told s e)
    ] h

rows-told : {A : Type 0} (r : Result A ℕ) (none : A) (late : A → Option Refusal)
    → ◌≡◌ {A = Option Refusal} (elim r [ Err number ↦ Some (record { rule = 19; place = number }) | Ok rows ↦ late rows ]) None → r ≡ Ok (result_unwrap_or r none)
rows-told (Ok rows) none late h = refl
rows-told (Err number) none late h = absurd (cc h)

accepted : (t : Members) (series : Option (List ℕ)) → first_broken t series ≡ None → IsAccepted t (rows_in t series)
accepted t series none =
    let late = both-none (early_refusal t) (option_or (series_refusal t series) (last_refusal t)) none in
    let rows = both-none (series_refusal t series) (last_refusal t) late.1 in
    record { series = series; accepted = none; rows = rows-told (tables_of t series) [] (late_refusal t) rows.0 }

course-is : (t : Members) (series : Option (List ℕ)) → IsAccepted t (rows_in t series) → AreHeld t → IsCourse (course_of t (rows_in t series))
course-is t series h held = record {
  opening = is-opening t (rows_in t series) h;
  limit = refl;
  rooted = rooted t;
  accepted = planned t held;
  edits = edits-fit t (rows_in t series) (branches_of t) (edits-among t held _ (kinds-said t (rows_in t series) h));
}

pub accepted-course : (t : Members) (series : Option (List ℕ)) (s : StudyTold) → study_of t series ≡ Ok s → IsCourse s.course
accepted-course t series s h =
    let parts = accepted-parts t series s h in
    let none = both-none (first_broken t series) (first_of_rules branch_rules t) parts.0 in
    subst (λ (x : StudyTold). IsCourse x.course) parts.1 (course-is t series (accepted t series none.0) (are-held t none.1))

-- ---- names

between : (n : ℕ) → is_between 1 32 n ≡ true → (1 ≤ n) × (n ≤ 32)
between n h = (grind (arith, nat_tests), grind (arith, nat_tests))

name-long : (text : List ℕ) → is_name text ≡ true → IsNameLength (length text)
name-long text h =
    let parts = and_parts (is_between 1 32 (length text)) (list_all is_name_byte text) h in
    let size = between (length text) parts.0 in
    record { some = size.0; few = size.1 }

abbrev IsNamed : Branch → Type 0
IsNamed b = IsNameLength (length b.name)

each-named : (scope : Scope) (whole before ds : List Data) → AllBeside has_new_name before ds → All IsNamed (map (branch_of scope whole) ds)
each-named scope whole before [] h = All-nil IsNamed
each-named scope whole before (d ∷ ds) h =
    let name = and_parts (is_name (name_in d)) (not (is_named (names_of before) (name_in d))) h.0 in
    All-cons IsNamed (branch_of scope whole d) (map (branch_of scope whole) ds) (name-long (name_in d) name.0) (each-named scope whole (before ++ d ∷ []) ds h.1)

branches-named : (t : Members) → AreHeld t → All IsNamed (branches_of t)
branches-named t held =
    let scope = scope_of t in
    let ds = branch_entries t in
    All-cons IsNamed root_branch (map (branch_of scope ds) ds) (record { some = omega arith; few = omega arith })
    (each-named scope ds [] ds (all-beside has_new_name ds held.names))

pub accepted-named : (t : Members) (series : Option (List ℕ)) (s : StudyTold) → study_of t series ≡ Ok s → AreNamed s.course
accepted-named t series s h =
    let parts = accepted-parts t series s h in
    let none = both-none (first_broken t series) (first_of_rules branch_rules t) parts.0 in
    subst (λ (x : StudyTold). AreNamed x.course) parts.1 (branches-named t (are-held t none.1))

-- ---- orders that are injected

pub accepted-spelled : (t : Members) (series : Option (List ℕ)) (s : StudyTold) → study_of t series ≡ Ok s → AreMessagesSpelled s.course
accepted-spelled t series s h = subst (λ (x : StudyTold). AreMessagesSpelled x.course) (accepted-parts t series s h).1 (branches-spelled t)
