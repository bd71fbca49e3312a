use Rattle.std.proofs.Common.{ℕ, ◌<◌, ◌≤◌, length, get_or}
use Rattle.market_rules.specs.declared.bands.Band.{Band}
use Rattle.market_rules.proofs.bands.place_of.Given as goal

abbrev pub invariant-loop-i : goal.invariant-loop-i
invariant-loop-i l = record {
  within : l.at < length l.bands;
  starts : (d : Band) → (get_or l.bands l.at d).from ≤ l.price;
  later : (d : Band) → (k : ℕ) → l.at < k → k < l.i → l.price < (get_or l.bands k d).from;
}
