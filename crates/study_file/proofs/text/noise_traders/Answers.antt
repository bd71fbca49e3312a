use Rattle.study_file.specs.LargeStudy.{noise_traders}
use Rattle.study_file.proofs.text.noise_traders.Goals as goal

pub returns : goal.returns
unfolding noise_traders
returns c = c.format.ensures.ok
