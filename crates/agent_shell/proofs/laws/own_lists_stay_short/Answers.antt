use Rattle.agent_shell.proofs.Kept.{replied-own, all-own}
use Rattle.agent_shell.proofs.laws.own_lists_stay_short.Goals as goal

pub returns-clause-replies : goal.returns-clause-replies
returns-clause-replies c = replied-own

pub returns-clause-orders : goal.returns-clause-orders
returns-clause-orders c = all-own
