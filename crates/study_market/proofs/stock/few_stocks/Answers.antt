use Rattle.std.proofs.Common.{◌≡◌, ◌≤◌, sym, ap, ◌∙◌, arith, length}
use Rattle.toml.specs.View.{table_view, view}
use Rattle.study_file.proofs.KeyLists.{length-mapped}
use Rattle.study_market.specs.StockRules.{stocks}
use Rattle.study_market.proofs.Squares.{few-stocks}
use Rattle.study_market.proofs.stock.few_stocks.Goals as goal

pub returns-clause-few : goal.returns-clause-few
returns-clause-few c =
    let few : length (stocks (table_view c.args.table.now)) ≤ 16 = few-stocks (table_view c.args.table.now) c.requires in
    let same : length c.stocks.result.now ≡ length (stocks (table_view c.args.table.now)) = sym (length-mapped view c.stocks.result.now) ∙ ap length c.stocks.ensures in
    omega (arith, few, same)
