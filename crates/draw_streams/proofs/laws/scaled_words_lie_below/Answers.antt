use Rattle.draw_streams.proofs.Words.{below-low}
use Rattle.draw_streams.proofs.laws.scaled_words_lie_below.Goals as goal

pub returns : goal.returns
returns c = below-low
