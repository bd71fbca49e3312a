use Rattle.std.proofs.Common.{subst}
use Rattle.exchange_agent.specs.Sound.{IsSound}
use Rattle.exchange_agent.proofs.exchange.Exchange.know_soundness.Goals as goal

pub returns : goal.returns
returns c = subst IsSound c.self.view_is c.self.invariant
