use Rattle.std.proofs.Common.{length}
use Rattle.study_market.proofs.reading.+push_entries.Given as goal

abbrev pub decreases-push_entries : goal.decreases-push_entries
decreases-push_entries g l = length l.entries.now
