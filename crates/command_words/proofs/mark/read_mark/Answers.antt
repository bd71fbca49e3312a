use Rattle.std.proofs.Common.{rules}
use Rattle.command_words.proofs.mark.read_mark.Goals as goal

pub returns : goal.returns
returns c = search rules
