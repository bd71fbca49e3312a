use Rattle.std.proofs.Common.{ltb, rules}
use Rattle.std.proofs.lemmas.List.Sorted.{IsPartitionPoint-from_clause, IsPartitionedBy-ltb}
use Rattle.reopen_cross.specs.declared.cross.Interest.{Interest}
use Rattle.reopen_cross.proofs.Ladders.{from-is}
use Rattle.reopen_cross.proofs.ladder.count_below.Goals as goal

pub returns-clause-shares : goal.returns-clause-shares
returns-clause-shares c =
    let orders = c.args.orders.now in
    let p = c.args.price in
    let point = IsPartitionPoint-from_clause (λ (o : Interest). ltb o.price p) orders c.partition_point.result c.partition_point.ensures.partitioned (IsPartitionedBy-ltb (λ (o : Interest). o.price) orders p c.requires) (λ a r q k. search rules) in
    from-is p orders c.partition_point.result c.partition_point.ensures.bound point
