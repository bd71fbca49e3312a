use Rattle.std.proofs.Common.{◌≡◌, ◌≤◌, ◌<◌, ◌+◌, ◌-◌, ℕ, length, get_or}
use Rattle.feed_rebuild.specs.declared.entries.Entry.{Entry}
use Rattle.feed_rebuild.proofs.entries.place_from.Given as goal

abbrev pub invariant-loop-low : goal.invariant-loop-low
invariant-loop-low l = record {
  between : l.low ≤ l.high;
  within : l.high ≤ length l.entries;
  below : (d : Entry) (k : ℕ) → k + 1 ≡ l.low → (get_or l.entries k d).order.reference < l.reference;
  above : (d : Entry) → l.high < length l.entries → l.reference ≤ (get_or l.entries l.high d).order.reference;
}

abbrev pub decreases-loop-low : goal.decreases-loop-low
decreases-loop-low l = l.high - l.low
