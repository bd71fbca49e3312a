use Rattle.std.proofs.Common.{rules}
use Rattle.exchange_agent.proofs.meet.add_to_feed.Goals as goal

pub returns-then-shown-clause-feed : goal.returns-then-shown-clause-feed
returns-then-shown-clause-feed c = search rules

pub returns-else-shown-clause-feed : goal.returns-else-shown-clause-feed
returns-else-shown-clause-feed c = search rules
