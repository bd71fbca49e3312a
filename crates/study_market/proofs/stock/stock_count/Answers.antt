use Rattle.std.proofs.Common.{sym, ap, ◌∙◌, length}
use Rattle.toml.specs.View.{view}
use Rattle.study_file.proofs.KeyLists.{length-mapped}
use Rattle.study_market.proofs.stock.stock_count.Goals as goal

pub returns : goal.returns
returns c = sym (length-mapped view c.stocks.result.now) ∙ ap length c.stocks.ensures
