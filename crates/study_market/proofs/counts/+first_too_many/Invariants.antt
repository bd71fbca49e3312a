use Rattle.std.proofs.Common.{length}
use Rattle.study_market.proofs.counts.+first_too_many.Given as goal

abbrev pub decreases-first_too_many : goal.decreases-first_too_many
decreases-first_too_many l = length l.entries.now
