use Rattle.std.proofs.Common.{◌≡◌, ◌+◌, ◌-◌, length}
use Rattle.exchange_agent.specs.Remembered.{pairs_from}
use Rattle.exchange_agent.proofs.remembered.grow.Given as goal

abbrev pub invariant-agents : goal.invariant-agents
invariant-agents l = pairs_from 0 l.agents.items ≡ pairs_from 0 l.initial.agents.items

abbrev pub decreases-agents : goal.decreases-agents
decreases-agents l = l.agent + 1 - length l.agents.items
