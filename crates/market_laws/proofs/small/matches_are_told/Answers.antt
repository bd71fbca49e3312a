use Rattle.market_laws.proofs.SmallRuns.{matches-told}
use Rattle.market_laws.proofs.small.matches_are_told.Goals as goal

pub returns : goal.returns
returns c = λ rules cash hidden acts opening possible.
    matches-told
    (record {
      fills = c.fills_add_up.ensures.tested;
      within = c.fills_add_up.ensures.within;
      sums = c.fills_add_up.ensures.shares;
      give = c.orderly_books_stay.ensures.give;
      held = c.next_is_best.ensures.held;
      orderly = c.orderly_books_stay.ensures.orderly;
      tested = c.a_match_keeps.ensures.tested;
      few = c.a_match_keeps.ensures.length;
      lower-tested = c.a_reduce_keeps.ensures.tested;
      lower-few = c.changes_keep.ensures.length;
      lowered = c.orderly_books_stay.ensures.lowered;
      by-reference = c.orderly_books_stay.ensures.by_reference;
      rested = c.orderly_books_stay.ensures.rested;
    }) rules cash hidden acts possible
