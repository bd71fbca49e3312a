use Rattle.std.proofs.Common.{◌≡◌, ◌≤◌, ◌<◌, ◌+◌, ◌-◌, ℕ, true, false, length, get_or}
use Rattle.std.specs.Ordering.{is_lt, nat_cmp}
use Rattle.price_time_book.specs.declared.index.ReferenceEntry.{ReferenceEntry}
use Rattle.price_time_book.proofs.index.reference_between.Given as goal

abbrev pub invariant-loop-low : goal.invariant-loop-low
invariant-loop-low l = record {
  between : l.low ≤ l.high;
  within : l.high ≤ length l.entries;
  below : (d : ReferenceEntry) (k : ℕ) → k + 1 ≡ l.low → is_lt (nat_cmp (get_or l.entries k d).reference l.reference) ≡ true;
  above : (d : ReferenceEntry) → l.high < length l.entries → is_lt (nat_cmp (get_or l.entries l.high d).reference l.reference) ≡ false;
}

abbrev pub decreases-loop-low : goal.decreases-loop-low
decreases-loop-low l = l.high - l.low
