use Rattle.study_file.specs.LargeStudy.{branches}
use Rattle.study_file.proofs.text.branches.Goals as goal

pub returns : goal.returns
unfolding branches
returns c = c.from_str.ensures.ok
