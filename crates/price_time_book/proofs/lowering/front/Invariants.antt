use Rattle.std.proofs.Common.{◌≤◌, ◌-◌, length}
use Rattle.price_time_book.specs.Indexed.{IsPlacedAt, IsClear, key}
use Rattle.price_time_book.proofs.lowering.front.Given as goal

abbrev pub invariant-loop-at : goal.invariant-loop-at
invariant-loop-at l = record {
  placed : IsPlacedAt l.orders (key l.queue l.level.price) l.at;
  before : IsClear l.orders (key l.queue l.level.price) 0 l.at;
  from : l.level.first ≤ l.at;
}

abbrev pub decreases-loop-at : goal.decreases-loop-at
decreases-loop-at l = length l.orders - l.at
