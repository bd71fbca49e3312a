use Rattle.std.proofs.Common.{sym, subst}
use Rattle.toml.specs.View.{table_view}
use Rattle.fundamental_series.specs.Ranges.{IsInRange}
use Rattle.study_market.specs.MarketRules.{span_of}
use Rattle.study_market.proofs.SeriesRanges.{is-series-rule}
use Rattle.study_market.proofs.series.made_by_rule.Goals as goal

pub series_rule-rule-requires : goal.series_rule-rule-requires
series_rule-rule-requires c =
    (is-series-rule (span_of (table_view c.args.table.now)) (table_view c.args.stock.now) c.requires.by c.requires.prices c.requires.pace).0

pub series_by_rule-requires-clause-rule : goal.series_by_rule-requires-clause-rule
series_by_rule-requires-clause-rule c =
    subst IsInRange (sym c.series_rule-rule.ensures)
    (is-series-rule (span_of (table_view c.args.table.now)) (table_view c.args.stock.now) c.requires.by c.requires.prices c.requires.pace).0
