use Rattle.std.proofs.Common.{◌≡◌, [], replicate}
use Rattle.study_market.proofs.tables.add_empty.Given as goal

abbrev pub invariant-loop-turn : goal.invariant-loop-turn
invariant-loop-turn l = l.tables.items ≡ replicate l._turn []
