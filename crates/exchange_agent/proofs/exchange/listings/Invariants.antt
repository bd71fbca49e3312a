use Rattle.std.proofs.Common.{◌≡◌, take, map}
use Rattle.exchange_agent.specs.Open.{listed}
use Rattle.exchange_agent.specs.View.{stock_of}
use Rattle.exchange_agent.proofs.exchange.listings.Given as goal

abbrev pub invariant-loop-rules : goal.invariant-loop-rules
invariant-loop-rules l = map stock_of l.listings.items ≡ map (listed l.traders) (take l.rules-index l.stocks)
