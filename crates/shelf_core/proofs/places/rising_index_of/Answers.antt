use Rattle.std.proofs.Common.{rules, sym, ◌∙◌, arith}
use Rattle.std.proofs.lemmas.List.Sorted.{IsPartitionPoint-from_clause}
use Rattle.shelf_core.specs.Plan.{is_before}
use Rattle.shelf_core.proofs.Lists.{within}
use Rattle.shelf_core.proofs.Rising.{parted, risen_hit, risen_miss, is_here, not_here}
use Rattle.shelf_core.proofs.places.rising_index_of.Goals as goal
use Rattle.shelf_core.proofs.places.rising_index_of.Goals.{else-at-keys-via-then-at-keys+else-eq, else-at-keys-via-else-at-keys}

pub returns-then-eq-clause-first : goal.returns-then-eq-clause-first
returns-then-eq-clause-first c =
    let key = c.args.key in let keys = c.args.keys.now in
    let point = IsPartitionPoint-from_clause (λ k. is_before k key) _ _ c.partition_point-at.ensures.partitioned (parted key keys c.requires) (λ a r q k. search rules) in
    risen_hit key keys c.partition_point-at.result c.requires point (is_here _ key keys c.partition_point-at.result c.if-at-keys.true (sym c.eq.ensures ∙ c.if-eq.true))

pub returns-clause-first : goal.returns-clause-first
returns-clause-first c =
    let key = c.args.key in let keys = c.args.keys.now in
    let point = IsPartitionPoint-from_clause (λ k. is_before k key) _ _ c.partition_point-at.ensures.partitioned (parted key keys c.requires) (λ a r q k. search rules) in
    risen_miss key keys c.partition_point-at.result c.requires point (λ e. elim c.else-at-keys.branch [ else-at-keys-via-then-at-keys+else-eq w ↦ not_here _ key keys c.partition_point-at.result (sym w.eq.ensures ∙ w.if-eq.false) e | else-at-keys-via-else-at-keys w ↦ (let far = w.if-at-keys.false in let near = within keys c.partition_point-at.result key e in absurd (omega arith)) ])
