use Rattle.std.proofs.Common.{◌≡◌, None, drop}
use Rattle.feed_rebuild.specs.Compared.{is_grouped}
use Rattle.feed_rebuild.proofs.compared.is_grouped.Given as goal

abbrev pub invariant-loop-order : goal.invariant-loop-order
invariant-loop-order l = is_grouped l.before (drop l.order-index l.live) ≡ is_grouped None l.live
