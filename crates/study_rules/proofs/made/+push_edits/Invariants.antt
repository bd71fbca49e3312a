use Rattle.std.proofs.Common.{length}
use Rattle.study_rules.proofs.made.+push_edits.Given as goal

abbrev pub decreases-push_edits : goal.decreases-push_edits
decreases-push_edits l = length l.entries.now
