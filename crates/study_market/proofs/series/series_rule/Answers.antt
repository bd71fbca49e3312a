use Rattle.std.proofs.Common.{arith}
use Rattle.study_market.proofs.series.series_rule.Goals as goal

pub small_at-requires : goal.small_at-requires
small_at-requires c = omega (arith, c.requires.start.high)

pub small_at-requires-2 : goal.small_at-requires-2
small_at-requires-2 c = omega (arith, c.requires.mean.high)

pub small_at-requires-3 : goal.small_at-requires-3
small_at-requires-3 c = omega (arith, c.requires.pull)

pub small_at-requires-4 : goal.small_at-requires-4
small_at-requires-4 c = omega (arith, c.requires.shock)
