use Rattle.study_file.specs.LargeStudy.{head}
use Rattle.study_file.proofs.text.head.Goals as goal

pub returns : goal.returns
unfolding head
returns c = rw c.in_ok-key.ensures at c.format.ensures.ok
