use Rattle.std.proofs.Common.{◌≡◌, ◌∙◌, List, None, Some, map, ap, sym, subst}
use Rattle.std.specs.Prelude.{is_some}
use Rattle.std.specs.List.{filter_map}
use Rattle.toml.specs.Data.{Data}
use Rattle.toml.specs.View.{view}
use Rattle.kernel_copy.specs.Courses.{AreEdits}
use Rattle.study_file.specs.Values.{first_failing}
use Rattle.study_rules.specs.Entries.{entry_of}
use Rattle.study_rules.specs.BranchRules.{forms_broken}
use Rattle.study_rules.specs.Scope.{Scope, scope_of_opening}
use Rattle.study_rules.specs.EditRules.{edit_in, is_edit}
use Rattle.study_rules.proofs.OpeningScopes.{none-left, bad-edit, good-edits, list-fits}
use Rattle.study_rules.proofs.edit_list.read_edit_list.Goals as goal

pub returns-in-Err-clause-said : goal.returns-in-Err-clause-said
returns-in-Err-clause-said c =
    let ds : List Data = map view c.args.entries.now in
    let scope : Scope = scope_of_opening c.args.study.now.course.value.opening in
    let broken = rw c.in-Err.is at c.in_ok-edits.ensures.broken in
    bad-edit (forms_broken ds) (first_failing (is_edit scope) ds) (filter_map (λ d. edit_in scope (entry_of d)) ds)
    (ap (λ (s : Scope). is_some (first_failing (is_edit s) ds)) (sym c.opening_scope.ensures) ∙ ap is_some broken)

pub returns-in-Ok-clause-said : goal.returns-in-Ok-clause-said
returns-in-Ok-clause-said c =
    let ds : List Data = map view c.args.entries.now in
    let scope : Scope = scope_of_opening c.args.study.now.course.value.opening in
    let kept = rw c.in-Ok.is at c.in_ok-edits.ensures.kept in
    let listed = rw c.in-Ok.is at c.in_ok-edits.ensures.said in
    ap Some (listed ∙ ap (λ (s : Scope). filter_map (λ d. edit_in s (entry_of d)) ds) c.opening_scope.ensures)
    ∙ good-edits (forms_broken ds) (first_failing (is_edit scope) ds) (filter_map (λ d. edit_in scope (entry_of d)) ds)
    (ap is_some (sym c.forms_broken.ensures.place) ∙ sym c.is_some.ensures ∙ c.if-is_some.false)
    (ap (λ (s : Scope). is_some (first_failing (is_edit s) ds)) (sym c.opening_scope.ensures) ∙ ap is_some kept)

pub returns-in-Ok-clause-fit : goal.returns-in-Ok-clause-fit
returns-in-Ok-clause-fit c =
    let ds : List Data = map view c.args.entries.now in
    let listed = rw c.in-Ok.is at c.in_ok-edits.ensures.said in
    let said = listed ∙ ap (λ (s : Scope). filter_map (λ d. edit_in s (entry_of d)) ds) c.opening_scope.ensures in
    let forms : forms_broken ds ≡ None = none-left (forms_broken ds) (ap is_some (sym c.forms_broken.ensures.place) ∙ sym c.is_some.ensures ∙ c.if-is_some.false) in
    subst (AreEdits c.args.study.now.course.value.opening) (sym said) (list-fits c.args.study.now.course.value.opening ds forms)
