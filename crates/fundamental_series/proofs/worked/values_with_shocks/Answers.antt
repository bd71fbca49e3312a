use Rattle.std.proofs.Common.{refl}
use Rattle.rand_core.specs.Steps.{u32_at}
use Rattle.rand_chacha.specs.Block.{block_word, column_round, diagonal_round, double_rounds, quarter_round}
use Rattle.fundamental_series.proofs.worked.values_with_shocks.Goals as goal

pub returns : goal.returns
unfolding u32_at block_word double_rounds column_round diagonal_round quarter_round
returns c = record {
  first = refl;
  second = refl;
  other_stock = refl;
}
