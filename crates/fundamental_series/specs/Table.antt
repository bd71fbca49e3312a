-- What holds of the values that a series keeps.
use Rattle.std.specs.Prelude.{◌≡◌, ℕ, ◌<◌, List, length, slice_index}
use Rattle.fundamental_series.specs.declared.rule.SeriesRule.{SeriesRule}
use Rattle.fundamental_series.specs.Value.{value_after}

-- the values after 0, 1, 2, .. steps
abbrev pub IsTable : List ℕ → ℕ → SeriesRule → List ℕ → Type 0
IsTable key stock rule values = (k : ℕ) → k < length values → slice_index values k ≡ value_after key stock rule k
