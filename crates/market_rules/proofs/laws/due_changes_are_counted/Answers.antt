use Rattle.std.proofs.lemmas.List.Sums.{count_by-le-length}
use Rattle.market_rules.specs.Changes.{is_due}
use Rattle.market_rules.proofs.Due.{rising}
use Rattle.market_rules.proofs.laws.due_changes_are_counted.Goals as goal

pub returns : goal.returns
returns c = record { within = λ list time. count_by-le-length (is_due time) list; rising = rising }
