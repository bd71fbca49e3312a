use Rattle.std.proofs.Common.{◌≡◌, length, map, rules}
use Rattle.exchange_agent.specs.Open.{listed}
use Rattle.exchange_agent.specs.View.{stock_of}
use Rattle.exchange_agent.proofs.States.{sound_opened}
use Rattle.exchange_agent.proofs.exchange.Exchange.open.Goals as goal

pub invariant_of-result : goal.invariant_of-result
invariant_of-result c =
    let stocks : map stock_of c.in_ok-stocks.stocks.items ≡ map (listed (length c.args.cash.now)) c.args.stocks.now = search rules in
    let cash : c.in-Ok.cash.items ≡ c.args.cash.now = search rules in
    sound_opened c.args.stocks.now c.args.cash.now c.in_ok-stocks.stocks.items c.in-Ok.cash.items c.new.result.keys c.args.hidden c.requires stocks cash c.new.ensures.empty c.in-Ok.ensures.small
