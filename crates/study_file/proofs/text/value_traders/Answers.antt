use Rattle.study_file.specs.LargeStudy.{value_traders}
use Rattle.study_file.proofs.text.value_traders.Goals as goal

pub returns : goal.returns
unfolding value_traders
returns c = c.format.ensures.ok
