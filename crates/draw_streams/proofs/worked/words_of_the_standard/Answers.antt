use Rattle.std.proofs.Common.{refl}
use Rattle.rand_core.specs.Steps.{u32_at}
use Rattle.rand_chacha.specs.Block.{block_word, column_round, diagonal_round, double_rounds, quarter_round}
use Rattle.draw_streams.proofs.worked.words_of_the_standard.Goals as goal

pub returns : goal.returns
unfolding u32_at block_word double_rounds column_round diagonal_round quarter_round
returns c = record {
  first = refl;
  second = refl;
  next_block = refl;
  other_stream = refl;
  worked_first = refl;
  worked_last = refl;
}
