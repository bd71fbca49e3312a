use Rattle.std.proofs.Common.{◌≡◌, take, map}
use Rattle.exchange_agent.specs.View.{stock_of}
use Rattle.exchange_agent.proofs.exchange.copies.Given as goal

abbrev pub invariant-loop-listing : goal.invariant-loop-listing
invariant-loop-listing l = map stock_of l.listings.items ≡ map stock_of (take l.listing-index l.stocks)
