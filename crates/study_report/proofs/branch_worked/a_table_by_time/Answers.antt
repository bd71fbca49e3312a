use Rattle.std.proofs.Common.{refl}
use Rattle.std.specs.Fmt.{digits}
use Rattle.rand_core.specs.Steps.{u32_at}
use Rattle.rand_chacha.specs.Block.{block_word, column_round, diagonal_round, double_rounds, quarter_round}
use Rattle.csv.proofs.OnLiterals.{csv_on_literals}
use Rattle.csv.specs.Writing.{escaped, fields_text, is_blank}
use Rattle.market_floor.specs.Reaction.{reaction}
use Rattle.market_floor.specs.Ruled.{ruled}
use Rattle.kernel_core.specs.Step.{event_of}
use Rattle.kernel_core.specs.Until.{advanced}
use Rattle.kernel_copy.specs.Full.{begun, full}
use Rattle.kernel_copy.specs.Segmentwise.{segment_end}
use Rattle.study_report.proofs.branch_worked.a_table_by_time.Goals as goal

pub returns : goal.returns
unfolding begun full segment_end reaction ruled advanced event_of csv_on_literals escaped fields_text is_blank digits u32_at block_word double_rounds column_round diagonal_round quarter_round
returns c = refl
