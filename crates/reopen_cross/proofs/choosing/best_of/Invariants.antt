use Rattle.std.proofs.Common.{◌≡◌, drop, map}
use Rattle.std.specs.List.{best_of}
use Rattle.reopen_cross.specs.declared.cross.Interest.{Interest}
use Rattle.reopen_cross.specs.Cross.{is_better}
use Rattle.reopen_cross.specs.Tallies.{tally_of}
use Rattle.reopen_cross.proofs.choosing.best_of.Given as goal

abbrev pub invariant-loop-order : goal.invariant-loop-order
invariant-loop-order l = record {
  tally : l.best ≡ tally_of l.sides.list.now l.best.price;
  best : best_of (is_better l.sides.list.now) l.best.price (map (λ (x : Interest). x.price) (drop l.order-index l.sides.list.now)) ≡ best_of (is_better l.sides.list.now) l.initial.best.price (map (λ (x : Interest). x.price) l.sides.list.now);
}
