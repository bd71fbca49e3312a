use Rattle.std.proofs.Common.{rules}
use Rattle.exchange_agent.proofs.exchange.Exchange.cancel.Goals as goal

pub returns-else-cancel-found-clause-state : goal.returns-else-cancel-found-clause-state
returns-else-cancel-found-clause-state c = search rules

pub returns-else-cancel-found-clause-replies : goal.returns-else-cancel-found-clause-replies
returns-else-cancel-found-clause-replies c = search rules

pub returns-else-cancel-found-clause-feed : goal.returns-else-cancel-found-clause-feed
returns-else-cancel-found-clause-feed c = search rules
