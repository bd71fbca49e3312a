use Rattle.std.proofs.Common.{length}
use Rattle.study_rules.proofs.scope.+kind_at.Given as goal

abbrev pub decreases-kind_at : goal.decreases-kind_at
decreases-kind_at l = length l.entries.now
