use Rattle.std.proofs.Common.{leb, rules}
use Rattle.std.proofs.lemmas.List.Sorted.{IsPartitionPoint-from_clause, IsPartitionedBy-leb}
use Rattle.reopen_cross.specs.declared.cross.Interest.{Interest}
use Rattle.reopen_cross.proofs.Ladders.{up-to-is}
use Rattle.reopen_cross.proofs.ladder.count_up_to.Goals as goal

pub returns-clause-shares : goal.returns-clause-shares
returns-clause-shares c =
    let orders = c.args.orders.now in
    let p = c.args.price in
    let point = IsPartitionPoint-from_clause (λ (o : Interest). leb o.price p) orders c.partition_point.result c.partition_point.ensures.partitioned (IsPartitionedBy-leb (λ (o : Interest). o.price) orders p c.requires) (λ a r q k. search rules) in
    up-to-is p orders c.partition_point.result c.partition_point.ensures.bound point
