use Rattle.std.proofs.Common.{◌≡◌, map, take}
use Rattle.toml.specs.View.{view}
use Rattle.study_market.specs.Market.{numbers_in}
use Rattle.study_market.proofs.latencies.base_rows.Given as goal

abbrev pub invariant-loop-row : goal.invariant-loop-row
invariant-loop-row l = map (λ row. row.items) l.table.items ≡ map numbers_in (map view (take l.row-index l.rows))
