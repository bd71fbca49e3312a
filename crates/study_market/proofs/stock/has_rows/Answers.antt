use Rattle.std.proofs.Common.{sym, ap, ◌∙◌}
use Rattle.std.specs.List.{list_any}
use Rattle.toml.specs.View.{view}
use Rattle.study_file.proofs.KeyLists.{any-map}
use Rattle.study_market.specs.StockRules.{is_by_rows}
use Rattle.study_market.proofs.stock.has_rows.Goals as goal

pub returns : goal.returns
returns c =
    c.any_by_rows.ensures
    ∙ sym (any-map view is_by_rows c.stocks.result.now)
    ∙ ap (list_any is_by_rows) c.stocks.ensures
