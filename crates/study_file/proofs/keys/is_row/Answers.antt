use Rattle.std.proofs.Common.{sym, ap, ◌∙◌}
use Rattle.std.specs.List.{list_all}
use Rattle.study_file.specs.Keys.{passes, items_list, is_number}
use Rattle.study_file.proofs.Lists.{all-items}
use Rattle.study_file.proofs.keys.is_row.Goals as goal

pub returns-in-Some : goal.returns-in-Some
returns-in-Some c =
    c.each_is_number.ensures ∙ sym (all-items (is_number) c.in-Some.items.now.items)
    ∙ ap (passes (λ items. list_all (is_number) (items_list items))) c.in-Some.ensures
