use Rattle.std.proofs.Common.{refl}
use Rattle.rand_core.specs.Steps.{u32_at}
use Rattle.rand_chacha.specs.Block.{block_word, column_round, diagonal_round, double_rounds, quarter_round}
use Rattle.market_floor.specs.Reaction.{reaction}
use Rattle.market_floor.specs.Ruled.{ruled}
use Rattle.kernel_core.specs.Edited.{edited_one}
use Rattle.kernel_core.specs.Step.{event_of}
use Rattle.kernel_core.specs.Until.{advanced}
use Rattle.kernel_copy.specs.Full.{begun}
use Rattle.kernel_copy.specs.Segmentwise.{segment_end}
use Rattle.rewind_desk.proofs.worked.a_number_past_the_end.Goals as goal

pub returns : goal.returns
unfolding begun segment_end event_of advanced edited_one reaction ruled u32_at block_word double_rounds column_round diagonal_round quarter_round
returns c = record { keys = refl; there = refl; unreached = refl; past = refl }
