use Rattle.std.proofs.Common.{◌≡◌, sym, ◌∙◌, bytes_eq, rules, tests}
use Rattle.std.proofs.lemmas.Iterator.{YieldsList-from_slice}
use Rattle.std.proofs.lemmas.Iterator.Search.{position_from_yields_List}
use Rattle.std.specs.Prelude.{position}
use Rattle.toml.specs.Data.{Data}
use Rattle.toml.specs.View.{view}
use Rattle.toml.specs.declared.value.Value.{Value}
use Rattle.study_file.proofs.KeyLists.{position-map, position-found}
use Rattle.study_rules.specs.Entries.{name_in}
use Rattle.study_rules.proofs.names.place_named.Goals as goal

pub returns-clause-place : goal.returns-clause-place
returns-clause-place c =
    let found : c.position.result ≡ position (λ (v : Value). bytes_eq (name_in (view v)) c.args.name.now) c.args.branches.now
    = position_from_yields_List (λ (v : Value). bytes_eq (name_in (view v)) c.args.name.now) _ _ c.position.result c.position.ensures.ran (YieldsList-from_slice c.args.branches.now cc) (λ x b q k. search (rules, tests)) in
    found ∙ sym (position-map view (λ (d : Data). bytes_eq (name_in d) c.args.name.now) c.args.branches.now)

pub returns-clause-within : goal.returns-clause-within
returns-clause-within c =
    let found : c.position.result ≡ position (λ (v : Value). bytes_eq (name_in (view v)) c.args.name.now) c.args.branches.now
    = position_from_yields_List (λ (v : Value). bytes_eq (name_in (view v)) c.args.name.now) _ _ c.position.result c.position.ensures.ran (YieldsList-from_slice c.args.branches.now cc) (λ x b q k. search (rules, tests)) in
    position-found (λ (v : Value). bytes_eq (name_in (view v)) c.args.name.now) c.args.branches.now c.position.result found
