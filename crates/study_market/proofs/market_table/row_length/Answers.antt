use Rattle.std.proofs.Common.{sym, ap, ◌∙◌, length}
use Rattle.toml.specs.View.{view}
use Rattle.study_file.proofs.KeyLists.{length-mapped}
use Rattle.study_market.proofs.market_table.row_length.Goals as goal

pub returns : goal.returns
returns c = sym (length-mapped view c.list_in.result.now) ∙ ap length c.list_in.ensures
