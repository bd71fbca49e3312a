use Rattle.study_file.specs.LargeStudy.{market}
use Rattle.study_file.proofs.text.market.Goals as goal

pub returns : goal.returns
unfolding market
returns c = c.from_str.ensures.ok
