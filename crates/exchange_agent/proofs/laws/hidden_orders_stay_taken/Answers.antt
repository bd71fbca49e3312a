use Rattle.exchange_agent.proofs.Hiddens.{stays-changed, stays-taken}
use Rattle.exchange_agent.proofs.laws.hidden_orders_stay_taken.Goals as goal

pub returns-clause-messages : goal.returns-clause-messages
returns-clause-messages c = stays-taken

pub returns-clause-changes : goal.returns-clause-changes
returns-clause-changes c = stays-changed
