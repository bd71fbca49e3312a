use Rattle.std.proofs.Common.{refl}
use Rattle.rand_core.specs.Steps.{u32_at}
use Rattle.rand_chacha.specs.Block.{block_word, column_round, diagonal_round, double_rounds, quarter_round}
use Rattle.market_floor.specs.Reaction.{reaction}
use Rattle.market_floor.specs.Ruled.{ruled}
use Rattle.kernel_core.specs.Edited.{edited_one}
use Rattle.kernel_core.specs.Step.{event_of}
use Rattle.kernel_core.specs.Until.{advanced}
use Rattle.kernel_copy.specs.Full.{begun, full}
use Rattle.csv.specs.Records.{field_at}
use Rattle.csv.proofs.OnLiterals.{csv_on_literals}
use Rattle.abides_run.proofs.worked.crosses_of_three_branches.Goals as goal

pub returns : goal.returns
unfolding csv_on_literals field_at begun full event_of advanced edited_one reaction ruled u32_at block_word double_rounds column_round diagonal_round quarter_round
returns c = record { unnamed = refl; stockless = refl; refused = refl; past = refl; there = refl }
