use Rattle.std.proofs.Common.{length}
use Rattle.study_rules.proofs.keys.+first_no_branch.Given as goal

abbrev pub decreases-first_no_branch : goal.decreases-first_no_branch
decreases-first_no_branch l = length l.values.now
