use Rattle.std.proofs.Common.{◌≡◌, take}
use Rattle.exchange_agent.proofs.remembered.copies.Given as goal

abbrev pub invariant-loop-tokens : goal.invariant-loop-tokens
invariant-loop-tokens l = l.equal.items ≡ take l.tokens-index l.agents
