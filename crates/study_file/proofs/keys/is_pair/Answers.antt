use Rattle.std.proofs.Common.{sym, ap, ◌∙◌, ◌&&◌, ◌==◌, length}
use Rattle.std.specs.List.{list_all}
use Rattle.study_file.specs.Keys.{passes, items_list, is_number}
use Rattle.study_file.proofs.Lists.{pair-items}
use Rattle.study_file.proofs.keys.is_pair.Goals as goal

pub returns-in-Some : goal.returns-in-Some
returns-in-Some c =
    c.are_two_numbers.ensures ∙ sym (pair-items c.in-Some.items.now.items)
    ∙ ap (passes (λ items. length (items_list items) == 2 && list_all is_number (items_list items))) c.in-Some.ensures
