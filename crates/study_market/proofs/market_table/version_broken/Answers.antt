use Rattle.std.proofs.Common.{◌∙◌, ap, Bool}
use Rattle.study_file.specs.Values.{broken_unless}
use Rattle.study_market.proofs.market_table.version_broken.Goals as goal

pub returns : goal.returns
returns c = c.broken_unless.ensures ∙ ap (λ (b : Bool). broken_unless b 0) c.has_between.ensures
