use Rattle.std.proofs.Common.{◌≡◌, sym, ap, ◌∙◌, rules, tests, is_some}
use Rattle.std.proofs.lemmas.Iterator.{YieldsList-from_slice}
use Rattle.std.proofs.lemmas.Iterator.Search.{all_from_yields_List}
use Rattle.std.specs.List.{list_all}
use Rattle.toml.specs.Data.{Data, as_table}
use Rattle.toml.specs.View.{view}
use Rattle.toml.specs.declared.value.Value.{Value}
use Rattle.study_file.specs.Keys.{passes, items_list}
use Rattle.study_file.proofs.Lists.{all-items}
use Rattle.study_file.proofs.keys.are_tables.Goals as goal

pub returns-in-Some : goal.returns-in-Some
returns-in-Some c =
    let each : c.all.result ≡ list_all (λ (v : Value). is_some (as_table (view v))) c.in-Some.items.now.items
    = all_from_yields_List (λ (v : Value). is_some (as_table (view v))) _ _ c.all.result c.all.ensures.ran (YieldsList-from_slice c.in-Some.items.now.items cc) (λ x b q k. search (rules, tests)) in
    each ∙ sym (all-items (λ (x : Data). is_some (as_table x)) c.in-Some.items.now.items)
    ∙ ap (passes (λ items. list_all (λ (x : Data). is_some (as_table x)) (items_list items))) c.in-Some.ensures
