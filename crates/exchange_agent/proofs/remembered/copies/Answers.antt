use Rattle.std.proofs.Common.{◌≡◌, get_or, ◌∙◌, rules}
use Rattle.std.proofs.lemmas.List.{take_all}
use Rattle.exchange_agent.proofs.Copied.{same-more}
use Rattle.exchange_agent.proofs.remembered.copies.Goals as goal

pub loop-tokens-preserved : goal.loop-tokens-preserved
loop-tokens-preserved c =
    let xs = c.args.agents.now in
    let i = c.loop-tokens.tokens-index in
    let x = c.tokens-item.result in
    let at : x ≡ get_or xs i x = search rules in
    same-more c.loop-tokens.equal.items c.push.new.self.items xs i x c.in_ok-copy.copy c.in_ok-push.ensures.items c.in_ok-copy.ensures at c.loop-tokens-test.true c.loop-tokens.invariant

pub returns : goal.returns
returns c = c.loop-tokens.invariant ∙ take_all c.loop-tokens.tokens-index c.args.agents.now c.loop-tokens-test.false
