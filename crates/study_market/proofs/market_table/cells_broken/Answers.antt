use Rattle.toml.specs.View.{table_view}
use Rattle.study_market.specs.MarketRules.{size_of, bases, jitters}
use Rattle.study_market.proofs.Squares.{squares, short-rows}
use Rattle.study_market.proofs.market_table.cells_broken.Goals as goal

pub cell_outside-requires-clause-narrow : goal.cell_outside-requires-clause-narrow
cell_outside-requires-clause-narrow c =
    let t = table_view c.args.table.now in
    (short-rows (size_of t) c.bases.result.now (bases t) c.bases.ensures (squares t c.requires).0 (squares t c.requires).1).1

pub cell_outside-requires-in-None-clause-narrow : goal.cell_outside-requires-in-None-clause-narrow
cell_outside-requires-in-None-clause-narrow c =
    let t = table_view c.args.table.now in
    (short-rows (size_of t) c.jitters.result.now (jitters t) c.jitters.ensures (squares t c.requires).0 (squares t c.requires).2).1
