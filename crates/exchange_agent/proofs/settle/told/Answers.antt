use Rattle.std.proofs.Common.{rules}
use Rattle.exchange_agent.proofs.settle.told.Goals as goal

pub returns-else-fill : goal.returns-else-fill
returns-else-fill c = search rules
