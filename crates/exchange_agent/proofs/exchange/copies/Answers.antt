use Rattle.std.proofs.Common.{◌≡◌, get_or, map, ap, ◌∙◌, rules}
use Rattle.std.proofs.lemmas.List.{take_all}
use Rattle.exchange_agent.specs.View.{stock_of}
use Rattle.exchange_agent.proofs.Copied.{told-more}
use Rattle.exchange_agent.proofs.exchange.copies.Goals as goal

pub loop-listing-preserved : goal.loop-listing-preserved
loop-listing-preserved c =
    let xs = c.args.stocks.now in
    let i = c.loop-listing.listing-index in
    let x = c.listing-item.result in
    let at : x ≡ get_or xs i x = search rules in
    told-more stock_of stock_of c.loop-listing.listings.items c.push.new.self.items xs i x c.in-Ok.listing c.in-Ok-push.ensures.items c.in-Ok.ensures at c.loop-listing-test.true c.loop-listing.invariant

pub returns : goal.returns
returns c = c.loop-listing.invariant ∙ ap (map stock_of) (take_all c.loop-listing.listing-index c.args.stocks.now c.loop-listing-test.false)
