use Rattle.market_laws.proofs.SmallFits.{BookLaws}
use Rattle.market_laws.proofs.SmallRuns.{small-exchange, small-feed}
use Rattle.market_laws.proofs.small.live_orders_are_small.Goals as goal
use Rattle.market_laws.proofs.small.live_orders_are_small.Goals.{After-next_is_best}

laws : After-next_is_best → BookLaws
laws c = record {
  fills = c.fills_add_up.ensures.tested;
  within = c.fills_add_up.ensures.within;
  sums = c.fills_add_up.ensures.shares;
  give = c.orderly_books_stay.ensures.give;
  held = c.next_is_best.ensures.held;
  orderly = c.orderly_books_stay.ensures.orderly;
  tested = c.a_match_keeps.ensures.tested;
  few = c.a_match_keeps.ensures.length;
  lower-tested = c.a_reduce_keeps.ensures.tested;
  lower-few = c.changes_keep.ensures.length;
  lowered = c.orderly_books_stay.ensures.lowered;
  by-reference = c.orderly_books_stay.ensures.by_reference;
  rested = c.orderly_books_stay.ensures.rested;
}

pub returns-clause-orders : goal.returns-clause-orders
returns-clause-orders c = λ rules cash hidden acts opening possible. small-exchange (laws c) rules cash hidden acts possible

pub returns-clause-feed : goal.returns-clause-feed
returns-clause-feed c = λ rules cash hidden acts opening possible. small-feed (laws c) rules cash hidden acts possible
