use Rattle.std.proofs.Common.{refl, sym, ◌∙◌, arith}
use Rattle.exchange_agent.specs.Remembered.{pairs_from}
use Rattle.exchange_agent.proofs.Agents.{has-seen, pairs-past}
use Rattle.exchange_agent.proofs.remembered.holds.Goals as goal

pub returns-then-place-agents : goal.returns-then-place-agents
returns-then-place-agents c = sym (pairs-past c.args.agent 0 c.args.agents.now c.args.token.now (omega (arith, c.if-place-agents.true, c.from-place.ensures)))

pub returns : goal.returns
returns c =
    c.contains.ensures
    ∙ has-seen c.args.agent c.from-place.result c.args.token.now c.args.agents.now (pairs_from 0 c.args.agents.now) c.index-agents-place.result c.from-place.ensures (omega (arith, c.if-place-agents.false)) c.index-agents-place.is refl
