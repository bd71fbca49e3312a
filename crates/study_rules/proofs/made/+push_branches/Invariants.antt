use Rattle.std.proofs.Common.{length}
use Rattle.study_rules.proofs.made.+push_branches.Given as goal

abbrev pub decreases-push_branches : goal.decreases-push_branches
decreases-push_branches l = length l.entries.now
