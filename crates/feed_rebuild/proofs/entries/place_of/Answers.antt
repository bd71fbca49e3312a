use Rattle.std.proofs.Common.{arith}
use Rattle.feed_rebuild.proofs.Places.{between-apart}
use Rattle.feed_rebuild.proofs.entries.place_of.Goals as goal

pub returns-then-not-has_reference-clause-absent : goal.returns-then-not-has_reference-clause-absent
returns-then-not-has_reference-clause-absent c =
    let from = c.place_from-at.ensures in
    between-apart c.args.reference c.place_from-at.result c.args.entries.now c.requires from.below (λ d h. omega (arith, from.above d h, c.has_reference.ensures.none d c.if-not-has_reference.true h)) from.within
