use Rattle.draw_streams.proofs.Words.{word-low}
use Rattle.draw_streams.proofs.laws.draws_have_32_bits.Goals as goal

pub returns : goal.returns
returns c = word-low
