use Rattle.std.proofs.Common.{◌≡◌, ℕ, map, take}
use Rattle.std.specs.List.{enumerate_from}
use Rattle.toml.specs.Data.{Data}
use Rattle.toml.specs.View.{view, table_view}
use Rattle.study_market.specs.Entries.{entry_of}
use Rattle.study_market.specs.Stocks.{series_in}
use Rattle.study_market.proofs.series.series_list.Given as goal

abbrev pub invariant-loop-number : goal.invariant-loop-number
invariant-loop-number l =
    l.list.items ≡ take l.number (map (λ (p : ℕ × Data). series_in (table_view l.table) l.tables p.0 (entry_of p.1)) (enumerate_from 0 (map view l.values)))
