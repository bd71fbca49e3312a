use Rattle.std.proofs.Common.{◌≡◌, ◌≤◌, ◌<◌, ◌+◌, ◌-◌, ℕ, length, get_or}
use Rattle.price_time_book.specs.declared.levels.Level.{Level}
use Rattle.price_time_book.specs.Indexed.{IsNoBetter, IsWorse}
use Rattle.price_time_book.proofs.levels.place_of.Given as goal

abbrev pub invariant-loop-low : goal.invariant-loop-low
invariant-loop-low l = record {
  between : l.low ≤ l.high;
  within : l.high ≤ length l.levels;
  below : (d : Level) (k : ℕ) → k + 1 ≡ l.low → IsWorse l.side (get_or l.levels k d).price l.price;
  above : (d : Level) → l.high < length l.levels → IsNoBetter l.side l.price (get_or l.levels l.high d).price;
}

abbrev pub decreases-loop-low : goal.decreases-loop-low
decreases-loop-low l = l.high - l.low
