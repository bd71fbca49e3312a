use Rattle.std.proofs.Common.{rules}
use Rattle.study_market.proofs.tables.is_later.Goals as goal

pub returns-in-Some : goal.returns-in-Some
returns-in-Some c = search rules
