use Rattle.std.proofs.Common.{refl}
use Rattle.rand_core.specs.Steps.{u32_at}
use Rattle.rand_chacha.specs.Block.{block_word, column_round, diagonal_round, double_rounds, quarter_round}
use Rattle.kernel_core.proofs.Sends.{grouped-two}
use Rattle.kernel_core.proofs.mail_worked.sent_messages.Goals as goal

pub returns : goal.returns
unfolding u32_at block_word double_rounds column_round diagonal_round quarter_round
returns c = record { grouped = grouped-two; question = refl; answer = refl; wakeup = refl; both = refl }
