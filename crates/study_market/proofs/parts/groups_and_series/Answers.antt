use Rattle.toml.specs.View.{table_view}
use Rattle.study_market.proofs.Held.{AreHeld, are-held}
use Rattle.study_market.proofs.SeriesRanges.{rows-there}
use Rattle.study_market.proofs.parts.groups_and_series.Goals as goal

pub latencies-requires : goal.latencies-requires
latencies-requires c =
    let h : AreHeld (table_view c.args.table.now) c.args.rows.now = are-held (table_view c.args.table.now) c.args.rows.now c.requires in
    record { square = h.squares; cells = h.cells }

pub all_series-requires : goal.all_series-requires
all_series-requires c =
    let h : AreHeld (table_view c.args.table.now) c.args.rows.now = are-held (table_view c.args.table.now) c.args.rows.now c.requires in record {
      key = h.key;
      few = h.stock_count;
      prices = h.prices;
      pace = h.pace;
      rows = rows-there (table_view c.args.table.now) c.requires.series c.args.rows.now c.requires.rows h.stock_keys h.late;
    }
