use Rattle.std.proofs.Common.{sym, ap, ◌∙◌, map}
use Rattle.std.specs.Prelude.{unwrap_or}
use Rattle.toml.specs.Data.{no_items}
use Rattle.toml.specs.View.{view}
use Rattle.study_file.specs.Keys.{items_list}
use Rattle.study_file.proofs.Lists.{items_list-view}
use Rattle.study_file.proofs.values.list_in.Goals as goal

pub returns-in-Some : goal.returns-in-Some
returns-in-Some c =
    ap (map view) c.as_slice.ensures.value
    ∙ sym (items_list-view c.in-Some.array.now.items)
    ∙ ap (λ o. items_list (unwrap_or o no_items)) c.in-Some.ensures
