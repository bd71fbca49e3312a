use Rattle.std.proofs.Common.{length}
use Rattle.study_market.proofs.changes.+first_no_change.Given as goal

abbrev pub decreases-first_no_change : goal.decreases-first_no_change
decreases-first_no_change l = length l.values.now
