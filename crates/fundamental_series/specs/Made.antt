-- What a series is made of, and its value at a time.
use Rattle.std.specs.Prelude.{ℕ, ◌-◌, ◌/◌, min, nat_le, List, [], ◌∷◌, length, filter, map, slice_index}
use Rattle.fundamental_series.specs.declared.rule.SeriesRow.{SeriesRow}
use Rattle.fundamental_series.specs.declared.rule.SeriesRule.{SeriesRule}
use Rattle.fundamental_series.specs.Value.{value_after}

-- a rule for one stock under a key, from a start to a close
pub record RuleMade : Type 0 where
  pub key : List ℕ
  pub stock : ℕ
  pub rule : SeriesRule
  pub start : ℕ
  pub close : ℕ

-- a series is made of a rule or of rows, which stand in order of time
pub data Made : Type 0 where
  by_rule : RuleMade → Made
  by_rows : List SeriesRow → Made

-- by a rule: the value after the steps that are over by then; after the close that at the close
abbrev pub rule_value : RuleMade → ℕ → ℕ
rule_value m time = value_after m.key m.stock m.rule ((min time m.close - m.start) / m.rule.every)

-- the last of some numbers
abbrev pub last_of : List ℕ → ℕ
last_of ns = slice_index ns (length ns - 1)

-- by rows: the value of the last row that isn't later
abbrev pub row_value : List SeriesRow → ℕ → ℕ
row_value rows time = last_of (map (λ r. r.value) (filter (λ r. nat_le r.time time) rows))

-- the value at a time
abbrev pub value_of : Made → ℕ → ℕ
value_of (by_rule m) time = rule_value m time
value_of (by_rows rows) time = row_value rows time

-- the time of the first row
abbrev pub first_time : List SeriesRow → ℕ
first_time [] = 0
first_time (r ∷ rows) = r.time

-- the time from which on there are values
abbrev pub first_time_of : Made → ℕ
first_time_of (by_rule m) = m.start
first_time_of (by_rows rows) = first_time rows
