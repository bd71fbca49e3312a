use Rattle.std.proofs.Common.{◌≡◌, sym, ap, ◌∙◌, map, take, bytes_eq, rules, tests}
use Rattle.std.proofs.lemmas.Iterator.{YieldsList-from_slice, YieldsList-from_take}
use Rattle.std.proofs.lemmas.Iterator.Search.{any_from_yields_List}
use Rattle.std.specs.Prelude.{◌||◌}
use Rattle.std.specs.List.{list_any}
use Rattle.toml.specs.Data.{Data}
use Rattle.toml.specs.View.{view}
use Rattle.toml.specs.declared.value.Value.{Value}
use Rattle.study_file.proofs.KeyLists.{any-map}
use Rattle.study_rules.specs.Entries.{name_in}
use Rattle.study_rules.proofs.names.is_known.Goals as goal

pub returns-else-eq : goal.returns-else-eq
returns-else-eq c =
    let found : c.any.result ≡ list_any (λ (v : Value). bytes_eq (name_in (view v)) c.args.name.now) (take c.args.count c.args.branches.now)
    = any_from_yields_List (λ (v : Value). bytes_eq (name_in (view v)) c.args.name.now) _ _ c.any.result c.any.ensures.ran
    (YieldsList-from_take c.args.count (YieldsList-from_slice c.args.branches.now cc) c.take.ensures.count) (λ x b q k. search (rules, tests)) in
    found
    ∙ sym (any-map view (λ (d : Data). bytes_eq (name_in d) c.args.name.now) (take c.args.count c.args.branches.now))
    ∙ sym (any-map name_in (λ name. bytes_eq name c.args.name.now) (map view (take c.args.count c.args.branches.now)))
    ∙ sym (ap (λ b. b || list_any (λ name. bytes_eq name c.args.name.now) (map name_in (map view (take c.args.count c.args.branches.now)))) (sym c.eq.ensures ∙ c.if-eq.false))
