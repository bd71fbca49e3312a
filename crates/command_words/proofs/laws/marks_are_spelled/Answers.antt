use Rattle.command_words.proofs.Spelled.{reads, is_spelled}
use Rattle.command_words.proofs.laws.marks_are_spelled.Goals as goal

pub returns : goal.returns
returns c = record { read = reads; spelled = is_spelled }
