use Rattle.kernel_copy.specs.Full.{full}
use Rattle.market_laws.proofs.SmallCourses.{small-feed, small-orders}
use Rattle.market_laws.proofs.laws.live_orders_of_courses_are_small.Goals as goal

pub returns-clause-orders : goal.returns-clause-orders
returns-clause-orders c = λ k b e h l.
    let met = c.runs_are_what_the_exchange_met.ensures k b e h l in
    small-orders k.opening (full k.opening k.plan b e) met.0 h.opening c.live_orders_are_small.ensures.orders met.1

pub returns-clause-feed : goal.returns-clause-feed
returns-clause-feed c = λ k b e h l.
    let met = c.runs_are_what_the_exchange_met.ensures k b e h l in
    small-feed k.opening (full k.opening k.plan b e) met.0 h.opening c.live_orders_are_small.ensures.feed met.1
