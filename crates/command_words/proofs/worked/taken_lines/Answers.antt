use Rattle.std.proofs.Common.{refl}
use Rattle.clap.proofs.OnLiterals.{clap_on_literals}
use Rattle.command_words.specs.Line.{rows_for}
use Rattle.command_words.proofs.worked.taken_lines.Goals as goal

pub returns : goal.returns
unfolding clap_on_literals rows_for
returns c = record { run = refl; options = refl; escaped = refl; rewind = refl; big = refl; cross = refl; no_symbol = refl; audit = refl; session = refl }
