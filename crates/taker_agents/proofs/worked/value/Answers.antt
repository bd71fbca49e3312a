use Rattle.std.proofs.Common.{refl}
use Rattle.rand_core.specs.Steps.{u32_at}
use Rattle.rand_chacha.specs.Block.{block_word, column_round, diagonal_round, double_rounds, quarter_round}
use Rattle.market_rules.specs.Nearest.{allowed_among, greatest_allowed}
use Rattle.taker_agents.proofs.worked.value.Goals as goal

pub returns : goal.returns
unfolding u32_at block_word double_rounds column_round diagonal_round quarter_round allowed_among greatest_allowed
returns c = record { buys = refl; one_draw = refl; sells = refl; waits = refl; waits_to_buy = refl; two_draws = refl }
