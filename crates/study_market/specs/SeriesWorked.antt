-- Stocks and rows for worked examples.
use Rattle.std.specs.Prelude.{ℕ, List, [], ◌∷◌, codes}
use Rattle.toml.specs.Data.{Data, string, table, no_members, member}
use Rattle.fundamental_series.specs.declared.rule.SeriesRow.{SeriesRow}

-- a stock whose values go by a rule or by rows
abbrev pub stock : List ℕ → List ℕ → Data
stock symbol series = table (member (codes "series") (string series) (member (codes "symbol") (string symbol) no_members))

-- of two stocks the second goes by rows
abbrev pub two_stocks : List Data
two_stocks = stock (codes "ABM") (codes "rule") ∷ stock (codes "XYZ") (codes "rows") ∷ []

abbrev pub row : ℕ → ℕ → SeriesRow
row time value = record { time = time; value = value }
