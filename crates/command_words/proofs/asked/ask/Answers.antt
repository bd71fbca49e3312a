use Rattle.std.proofs.Common.{IfSome}
use Rattle.std.proofs.lemmas.Result.{IfOk-weaker}
use Rattle.command_words.specs.Line.{parts_seen}
use Rattle.command_words.specs.Ranges.{IsInRange}
use Rattle.command_words.proofs.InRange.{line_is_in_range}
use Rattle.command_words.proofs.asked.ask.Goals as goal

pub returns-in-Some-clause-in_range : goal.returns-in-Some-clause-in_range
returns-in-Some-clause-in_range c =
    IfOk-weaker c.asked_in.result _ (λ asked. IfSome asked IsInRange) (line_is_in_range (parts_seen c.in-Some.line)) c.asked_in.ensures
