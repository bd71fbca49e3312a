use Rattle.std.proofs.Common.{◌≡◌, length}
use Rattle.kernel_tests.proofs.exchange_examples.limits.fill.Given as goal

abbrev pub invariant-loop-n : goal.invariant-loop-n
invariant-loop-n g l = record {
  traders : length l.exchange.cash ≡ length l.initial.exchange.cash;
  stocks : length l.exchange.stocks ≡ length l.initial.exchange.stocks;
}
