use Rattle.study_file.specs.LargeStudy.{momentum_traders}
use Rattle.study_file.proofs.text.momentum_traders.Goals as goal

pub returns : goal.returns
unfolding momentum_traders
returns c = c.format.ensures.ok
