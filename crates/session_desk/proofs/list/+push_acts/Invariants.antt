use Rattle.std.proofs.Common.{length}
use Rattle.session_desk.proofs.list.+push_acts.Given as goal

abbrev pub decreases-push_acts : goal.decreases-push_acts
decreases-push_acts l = length l.entries.now
