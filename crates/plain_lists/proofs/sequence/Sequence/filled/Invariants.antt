use Rattle.std.proofs.Common.{◌≡◌, replicate}
use Rattle.plain_lists.proofs.sequence.Sequence.filled.Given as goal

abbrev pub invariant-loop : goal.invariant-loop
invariant-loop g l = l.list ≡ replicate l.counter l.item
