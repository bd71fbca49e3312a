use Rattle.std.proofs.Common.{rules}
use Rattle.exchange_agent.proofs.enter.has_strange_display.Goals as goal

pub returns : goal.returns
returns c = search rules
