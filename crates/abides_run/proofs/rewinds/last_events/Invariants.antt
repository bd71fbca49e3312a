use Rattle.std.proofs.Common.{◌≡◌}
use Rattle.abides_run.specs.Rewinds.{lasts_before}
use Rattle.abides_run.proofs.rewinds.last_events.Given as goal

abbrev pub invariant-loop-branch : goal.invariant-loop-branch
invariant-loop-branch g l = l.lasts.items ≡ lasts_before l.course l.branch
