use Rattle.std.proofs.Common.{◌≡◌, ◌∙◌, Ok, List, map, refl, sym, ap, inr, rules}
use Rattle.std.specs.List.{filter_map}
use Rattle.toml.specs.Data.{Data}
use Rattle.toml.specs.View.{view}
use Rattle.study_rules.specs.Entries.{entry_of}
use Rattle.study_rules.specs.Scope.{Scope, scope_of_opening}
use Rattle.study_rules.proofs.Reading.{from_start}
use Rattle.session_desk.specs.Acts.{act_in}
use Rattle.session_desk.proofs.Told.{with_failing}
use Rattle.session_desk.proofs.list.acts_of.Goals as goal

pub returns-in-Ok-None-clause-acts : goal.returns-in-Ok-None-clause-acts
returns-in-Ok-None-clause-acts c =
    let scope : Scope = scope_of_opening c.args.study.now.course.value.opening in
    let ds : List Data = map view c.args.entries.now in
    let place = rw c.in-Ok-None.field-0-is at c.in-Ok-None.ensures.place in
    let said = rw c.in-Ok-None.field-0-is at c.in-Ok-None.ensures.said in
    let grown = said refl in
    let listed : c.push_acts.new.acts.items ≡ filter_map (λ d. act_in scope (entry_of d)) ds = search (rules, grown) in
    ap (with_failing (filter_map (λ d. act_in scope (entry_of d)) ds)) (from_start (act_in scope) ds ∙ sym place)
    ∙ ap Ok (sym listed)

pub returns-in-Ok-Some-clause-refused : goal.returns-in-Ok-Some-clause-refused
returns-in-Ok-Some-clause-refused c =
    let scope : Scope = scope_of_opening c.args.study.now.course.value.opening in
    let ds : List Data = map view c.args.entries.now in
    let place = rw c.in-Ok-Some.field-0-is at c.in-Ok-Some.ensures.place in
    inr (ap (with_failing (filter_map (λ d. act_in scope (entry_of d)) ds)) (from_start (act_in scope) ds ∙ sym place))
