use Rattle.std.proofs.Common.{◌≡◌, ◌≤◌, drop, min}
use Rattle.reopen_cross.specs.Cross.{first_beyond}
use Rattle.reopen_cross.proofs.choosing.first_beyond.Given as goal

abbrev pub invariant-loop-order : goal.invariant-loop-order
invariant-loop-order l = record {
  least : min l.first (first_beyond l.sides.list.now l.shares (drop l.order-index l.sides.list.now)) ≡ first_beyond l.sides.list.now l.shares l.sides.list.now;
  bounded : l.first ≤ 1999999901;
}
