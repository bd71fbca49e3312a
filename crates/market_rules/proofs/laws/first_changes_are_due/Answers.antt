use Rattle.market_rules.proofs.Due.{due_first, later_rest}
use Rattle.market_rules.proofs.laws.first_changes_are_due.Goals as goal

pub returns : goal.returns
returns c = record { due = due_first; later = later_rest }
