-- What is read of a study that breaks no rule up to those of its agents.
use Rattle.std.specs.Prelude.{◌≡◌, ℕ, List, Option, None, Ok}
use Rattle.toml.specs.Data.{Members}
use Rattle.fundamental_series.specs.declared.rule.SeriesRow.{SeriesRow}
use Rattle.market_floor.specs.declared.opening.Opening.{Opening}
use Rattle.study_market.specs.FirstOfMarket.{first_broken, tables_of}
use Rattle.study_market.specs.Opening.{opening_of, IsAccepted}

-- no rule is broken, the series file says these rows of each stock, and a run starts from this
pub record IsRead (t : Members) (series : Option (List ℕ)) (opening : Opening) : Type 0 where
  pub tables : List (List SeriesRow)
  pub accepted : first_broken t series ≡ None
  pub rows : tables_of t series ≡ Ok tables
  pub said : opening ≡ opening_of t tables

-- a run of an accepted study starts from this
pub record IsOpened (t : Members) (opening : Opening) : Type 0 where
  pub tables : List (List SeriesRow)
  pub accepted : IsAccepted t tables
  pub said : opening ≡ opening_of t tables
