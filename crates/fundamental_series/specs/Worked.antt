-- Rules and rows for worked examples.
use Rattle.std.specs.Prelude.{ℕ, List, [], ◌∷◌}
use Rattle.fundamental_series.specs.declared.rule.SeriesRow.{SeriesRow}
use Rattle.fundamental_series.specs.declared.rule.SeriesRule.{SeriesRule}
use Rattle.fundamental_series.specs.Made.{RuleMade}

-- a rule without shocks, with a step every 100 nanoseconds
abbrev pub calm : ℕ → ℕ → ℕ → SeriesRule
calm start mean pull = record { start = start; mean = mean; pull = pull; shock = 0; every = 100 }

-- the series of a rule for stock 0 under a key, from 1000 to 1250 nanoseconds past midnight
abbrev pub made_by : List ℕ → SeriesRule → RuleMade
made_by key rule = record { key = key; stock = 0; rule = rule; start = 1000; close = 1250 }

-- a twentieth of the distance to 10.00 dollars at each step, and shocks of up to five cents
abbrev pub shocked : SeriesRule
shocked = record { start = 100000; mean = 100000; pull = 50000; shock = 500; every = 100 }

-- 9.90 dollars from 900 nanoseconds past midnight on, 9.80 from 1500 on
abbrev pub two_rows : List SeriesRow
two_rows = record { time = 900; value = 99000 } ∷ record { time = 1500; value = 98000 } ∷ []
