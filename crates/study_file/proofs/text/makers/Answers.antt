use Rattle.study_file.specs.LargeStudy.{makers}
use Rattle.study_file.proofs.text.makers.Goals as goal

pub returns : goal.returns
unfolding makers
returns c = c.format.ensures.ok
