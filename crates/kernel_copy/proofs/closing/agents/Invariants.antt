use Rattle.std.proofs.Common.{◌≡◌}
use Rattle.kernel_copy.specs.Closing.{agents_closed}
use Rattle.kernel_copy.proofs.closing.agents.Given as goal

abbrev pub invariant-loop-i : goal.invariant-loop-i
invariant-loop-i l = l.agents.items ≡ agents_closed l.kernel l.i
