use Rattle.std.proofs.Common.{rules}
use Rattle.price_time_book.proofs.lowering.earlier.Goals as goal

pub returns-then-hidden_first-clause-first : goal.returns-then-hidden_first-clause-first
returns-then-hidden_first-clause-first c = search rules

pub returns-else-hidden_first-clause-first : goal.returns-else-hidden_first-clause-first
returns-else-hidden_first-clause-first c = search rules
