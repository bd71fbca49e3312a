use Rattle.std.proofs.Common.{◌∙◌, sym, rules}
use Rattle.command_words.specs.Line.{parts_seen}
use Rattle.command_words.proofs.Names.{no_places, no_workers}
use Rattle.command_words.proofs.asked.asked_in.Goals as goal

pub returns-in_default : goal.returns-in_default
returns-in_default c = no_workers (parts_seen c.args.line.now) (sym c.in_default.is ∙ c.read_count.ensures)

pub returns-in_default-read_count : goal.returns-in_default-read_count
returns-in_default-read_count c = no_places (parts_seen c.args.line.now) (sym c.in_default-read_count.is ∙ c.read_count-2.ensures)

pub returns-in-Some-2 : goal.returns-in-Some-2
returns-in-Some-2 c = search rules
