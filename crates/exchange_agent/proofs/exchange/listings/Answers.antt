use Rattle.std.proofs.Common.{◌≡◌, get_or, map, ap, ◌∙◌, rules}
use Rattle.std.proofs.lemmas.List.{take_all}
use Rattle.exchange_agent.specs.Open.{listed}
use Rattle.exchange_agent.specs.View.{stock_of}
use Rattle.exchange_agent.proofs.Copied.{told-more}
use Rattle.exchange_agent.proofs.exchange.listings.Goals as goal

pub loop-rules-preserved : goal.loop-rules-preserved
loop-rules-preserved c =
    let xs = c.args.stocks.now in
    let i = c.loop-rules.rules-index in
    let x = c.rules-item.result in
    let at : x ≡ get_or xs i x = search rules in
    told-more stock_of (listed c.args.traders) c.loop-rules.listings.items c.push.new.self.items xs i x c.in-Ok.listing c.in-Ok-push.ensures.items c.in-Ok.ensures at c.loop-rules-test.true c.loop-rules.invariant

pub returns : goal.returns
returns c = c.loop-rules.invariant ∙ ap (map (listed c.args.traders)) (take_all c.loop-rules.rules-index c.args.stocks.now c.loop-rules-test.false)
