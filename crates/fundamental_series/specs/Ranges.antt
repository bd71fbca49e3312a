-- The ranges of what a series is made of.
use Rattle.std.specs.Prelude.{ℕ, ◌<◌, ◌≤◌, List, [], ◌∷◌, length, All}
use Rattle.std.specs.List.{AllByRecursion}
use Rattle.market_types.specs.Limits.{highest_price}
use Rattle.fundamental_series.specs.declared.rule.SeriesRow.{SeriesRow}
use Rattle.fundamental_series.specs.declared.rule.SeriesRule.{SeriesRule}

-- from 0.0001 to 199,999.99 dollars
pub record IsPrice (n : ℕ) : Type 0 where
  pub low : 1 ≤ n
  pub high : n ≤ highest_price

pub record IsInRange (rule : SeriesRule) : Type 0 where
  pub start : IsPrice rule.start
  pub mean : IsPrice rule.mean
  pub pull : rule.pull ≤ 1000000
  pub shock : rule.shock ≤ 1000000000
  pub every : 1 ≤ rule.every

-- each row is earlier than all that follow it
abbrev pub IsRising : List SeriesRow → Type 0
IsRising [] = Unit {0}
IsRising (r ∷ rows) = AllByRecursion (λ (s : SeriesRow). r.time < s.time) rows × IsRising rows

pub record AreRows (rows : List SeriesRow) : Type 0 where
  pub some_row : 1 ≤ length rows
  pub prices : All (λ r. IsPrice r.value) rows
  pub rising : IsRising rows
