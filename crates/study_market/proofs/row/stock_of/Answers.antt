use Rattle.std.proofs.Common.{sym, ◌∙◌}
use Rattle.toml.specs.View.{view}
use Rattle.study_file.proofs.KeyLists.{position-map}
use Rattle.study_market.specs.Records.{is_stock_of}
use Rattle.study_market.proofs.row.stock_of.Goals as goal

pub returns-clause-place : goal.returns-clause-place
returns-clause-place c = c.place_of.ensures ∙ sym (position-map view (is_stock_of c.args.symbol.now) c.args.stocks.now)
