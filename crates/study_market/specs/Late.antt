-- Which stock by rows has no value at the start.
use Rattle.std.specs.Prelude.{ℕ, nat_le, Bool, ◌&&◌, not, List, Option, position}
use Rattle.std.specs.List.{list_any, enumerate_from}
use Rattle.toml.specs.Data.{Data}
use Rattle.fundamental_series.specs.declared.rule.SeriesRow.{SeriesRow}
use Rattle.study_market.specs.StockRules.{is_by_rows}
use Rattle.study_market.specs.Rows.{rows_of}

-- no row is at the start or earlier
abbrev pub is_late : ℕ → List SeriesRow → Bool
is_late start rows = not (list_any (λ (r : SeriesRow). nat_le r.time start) rows)

-- the place of the first stock by rows that has no row at the start or earlier
abbrev pub first_late : ℕ → List Data → List (List SeriesRow) → Option ℕ
first_late start stocks tables =
    position (λ (p : ℕ × Data). is_by_rows p.1 && is_late start (rows_of tables p.0)) (enumerate_from 0 stocks)
