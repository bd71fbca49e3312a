use Rattle.std.proofs.Common.{refl}
use Rattle.std.specs.Fmt.{digits}
use Rattle.std.specs.Str.{is_utf8}
use Rattle.rand_core.specs.Steps.{u32_at}
use Rattle.rand_chacha.specs.Block.{block_word, column_round, diagonal_round, double_rounds, quarter_round}
use Rattle.clap.proofs.OnLiterals.{clap_on_literals}
use Rattle.toml.proofs.OnLiterals.{toml_on_literals}
use Rattle.command_words.specs.Line.{rows_for}
use Rattle.market_floor.specs.Reaction.{reaction}
use Rattle.market_floor.specs.Ruled.{ruled}
use Rattle.kernel_core.specs.Edited.{edited_one}
use Rattle.kernel_core.specs.Step.{event_of}
use Rattle.kernel_core.specs.Until.{advanced}
use Rattle.kernel_copy.specs.Full.{begun, full}
use Rattle.session_desk.specs.Script.{script_of}
use Rattle.abides_run.proofs.worked.sessions_of_three_branches.Goals as goal

pub returns : goal.returns
unfolding digits clap_on_literals toml_on_literals rows_for is_utf8 script_of begun full event_of advanced edited_one reaction ruled u32_at block_word double_rounds column_round diagonal_round quarter_round
returns c = record { asked = refl; no_toml = refl; no_acts = refl; refused = refl; past = refl; there = refl }
