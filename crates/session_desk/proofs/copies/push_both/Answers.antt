use Rattle.std.proofs.Common.{rules}
use Rattle.session_desk.proofs.copies.push_both.Goals as goal

pub returns-clause-own : goal.returns-clause-own
returns-clause-own c = search rules
