use Rattle.std.proofs.Common.{◌≤◌, arith}
use Rattle.toml.specs.View.{table_view}
use Rattle.study_market.specs.MarketRules.{size_of}
use Rattle.study_market.proofs.Squares.{squares}
use Rattle.study_market.proofs.market_table.group_number.Goals as goal

pub overflow_cast-result : goal.overflow_cast-result
overflow_cast-result c =
    let few : size_of (table_view c.args.table.now) ≤ 32 = (squares (table_view c.args.table.now) c.requires).0 in
    omega (arith, few, c.group_count.ensures)
