use Rattle.std.proofs.Common.{leb, arith, rules}
use Rattle.std.proofs.lemmas.Bool.{leb-true, leb-false}
use Rattle.std.proofs.lemmas.List.Sorted.{IsPartitionPoint-from_clause, IsPartitionedBy-leb}
use Rattle.fundamental_series.specs.declared.rule.SeriesRow.{SeriesRow}
use Rattle.fundamental_series.proofs.Fronts.{rising_in_order}
use Rattle.fundamental_series.proofs.rows.count_not_later.Goals as goal

pub returns-clause-not_later : goal.returns-clause-not_later
returns-clause-not_later c k d less =
    let rows = c.args.rows.now in
    let point = IsPartitionPoint-from_clause (λ (r : SeriesRow). leb r.time c.args.time) rows c.partition_point.result c.partition_point.ensures.partitioned (IsPartitionedBy-leb (λ (r : SeriesRow). r.time) rows c.args.time (rising_in_order rows c.requires)) (λ a r q k. search rules) in
    leb-true _ _ (point.0 k d (omega arith) less)

pub returns-clause-later : goal.returns-clause-later
returns-clause-later c k d more within =
    let rows = c.args.rows.now in
    let point = IsPartitionPoint-from_clause (λ (r : SeriesRow). leb r.time c.args.time) rows c.partition_point.result c.partition_point.ensures.partitioned (IsPartitionedBy-leb (λ (r : SeriesRow). r.time) rows c.args.time (rising_in_order rows c.requires)) (λ a r q k. search rules) in
    leb-false _ _ (point.1 k d more within)
