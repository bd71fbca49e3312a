use Rattle.std.proofs.Common.{◌≡◌, sym, ap, ◌∙◌, rules, tests}
use Rattle.std.proofs.lemmas.Iterator.{YieldsList-from_slice}
use Rattle.std.proofs.lemmas.Iterator.Search.{all_from_yields_List}
use Rattle.std.specs.List.{list_all}
use Rattle.toml.specs.View.{view}
use Rattle.toml.specs.declared.value.Value.{Value}
use Rattle.study_file.specs.Keys.{passes, items_list, is_number, is_array_of}
use Rattle.study_file.proofs.Lists.{all-items}
use Rattle.study_file.proofs.keys.are_rows.Goals as goal

pub returns-in-Some : goal.returns-in-Some
returns-in-Some c =
    let each : c.all.result ≡ list_all (λ (v : Value). (is_array_of is_number) (view v)) c.in-Some.items.now.items
    = all_from_yields_List (λ (v : Value). is_array_of is_number (view v)) _ _ c.all.result c.all.ensures.ran (YieldsList-from_slice c.in-Some.items.now.items cc) (λ x b q k. search (rules, tests)) in
    each ∙ sym (all-items (is_array_of is_number) c.in-Some.items.now.items)
    ∙ ap (passes (λ items. list_all (is_array_of is_number) (items_list items))) c.in-Some.ensures
