use Rattle.std.proofs.Common.{arith}
use Rattle.toml.specs.View.{table_view}
use Rattle.study_market.proofs.TraderRanges.{IsTimed, is-timed}
use Rattle.study_market.proofs.traders.trader.Goals as goal

pub overflow_cast-result : goal.overflow_cast-result
overflow_cast-result c =
    let timed : IsTimed 32 0 (table_view c.args.agent.now) = is-timed 32 0 (table_view c.args.agent.now) c.requires.timing in
    omega (arith, timed.group, c.natural_at.ensures)

pub overflow_cast-result-2 : goal.overflow_cast-result-2
overflow_cast-result-2 c =
    let timed : IsTimed 32 0 (table_view c.args.agent.now) = is-timed 32 0 (table_view c.args.agent.now) c.requires.timing in
    omega (arith, timed.wobble, c.natural_at-3.ensures)
