use Rattle.std.proofs.Common.{◌≡◌, ◌≤◌, ◌<◌, ◌+◌, ◌-◌, ℕ, List, true, false, length, get_or}
use Rattle.std.specs.Ordering.{is_lt}
use Rattle.exchange_agent.specs.Remembered.{by_bytes}
use Rattle.exchange_agent.proofs.tokens.place_from.Given as goal

abbrev pub invariant-loop-low : goal.invariant-loop-low
invariant-loop-low l = record {
  between : l.low ≤ l.high;
  within : l.high ≤ length l.tokens;
  below : (d : List ℕ) (k : ℕ) → k + 1 ≡ l.low → is_lt (by_bytes (get_or l.tokens k d) l.token) ≡ true;
  above : (d : List ℕ) → l.high < length l.tokens → is_lt (by_bytes (get_or l.tokens l.high d) l.token) ≡ false;
}

abbrev pub decreases-loop-low : goal.decreases-loop-low
decreases-loop-low l = l.high - l.low
