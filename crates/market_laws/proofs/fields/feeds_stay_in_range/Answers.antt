use Rattle.std.proofs.Common.{◌≤◌, List, All, sym, subst, arith}
use Rattle.market_types.specs.Limits.{most_events}
use Rattle.market_types.specs.declared.feed.Feed.{Feed}
use Rattle.kernel_copy.specs.Full.{full}
use Rattle.feed_rebuild.specs.Feeds.{entries_feed}
use Rattle.market_laws.specs.History.{first_exchange}
use Rattle.market_laws.specs.Market.{exchange_of}
use Rattle.market_laws.specs.Named.{NamesItsStock}
use Rattle.market_laws.proofs.FeedRanges.{entries-in}
use Rattle.market_laws.proofs.fields.feeds_stay_in_range.Goals as goal

pub returns : goal.returns
returns g = λ c b e is l.
    let o = c.opening in
    let r = full o c.plan b e in
    let counts = (exchange_of r).counts in
    let met = g.runs_are_what_the_exchange_met.ensures c b e is l in
    let small = g.live_orders_of_courses_are_small.ensures.orders c b e is l in
    let reached = g.courses_stay_in_range.ensures.states c b e is l in
    let few : counts.orders ≤ most_events = omega (arith, small.accepted, reached.fits.limit, is.opening.limit) in
    let less : counts.matches ≤ most_events = omega (arith, small.ended, few) in
    let named : All (NamesItsStock (first_exchange o)) (entries_feed r.entries) = subst (λ (f : List Feed). All (NamesItsStock (first_exchange o)) f) (sym met.1.feed) (g.feeds_name_their_stocks.ensures (first_exchange o) met.0) in
    entries-in o counts.orders counts.matches r.entries is.opening few less (g.courses_stay_in_range.ensures.entries c b e is l)
    (record { small = g.live_orders_of_courses_are_small.ensures.feed c b e is l; named = named })
