use Rattle.std.proofs.Common.{◌≡◌, ◌≤◌, ◌+◌, ◌*◌, ◌^◌, drop, sum, length}
use Rattle.quoter_agents.proofs.history.sum_of.Given as goal

abbrev pub invariant-loop-middle : goal.invariant-loop-middle
invariant-loop-middle l = record {
  rest : l.total + sum (drop l.middle-index l.middles) ≡ sum l.middles;
  bound : l.total ≤ l.middle-index * 2 ^ 32;
  within : l.middle-index ≤ length l.middles;
}
