use Rattle.std.proofs.Common.{◌≡◌}
use Rattle.kernel_copy.specs.Closing.{stocks_closed}
use Rattle.kernel_copy.proofs.closing.stocks.Given as goal

abbrev pub invariant-loop-k : goal.invariant-loop-k
invariant-loop-k l = l.stocks.items ≡ stocks_closed l.kernel l.k
