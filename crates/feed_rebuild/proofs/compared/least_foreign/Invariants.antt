use Rattle.std.proofs.Common.{◌≡◌, drop}
use Rattle.feed_rebuild.specs.Compared.{least, lesser, odd_in}
use Rattle.feed_rebuild.specs.Entries.{kept}
use Rattle.feed_rebuild.proofs.compared.least_foreign.Given as goal

abbrev pub invariant-loop-order : goal.invariant-loop-order
invariant-loop-order l = lesser l.least (least (odd_in (kept l.entries) (drop l.order-index l.live))) ≡ least (odd_in (kept l.entries) l.live)
