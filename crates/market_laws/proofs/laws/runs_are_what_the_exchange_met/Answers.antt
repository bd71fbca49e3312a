use Rattle.market_laws.proofs.Conserved.{met-walked}
use Rattle.market_laws.proofs.Walking.{walked-full}
use Rattle.market_laws.proofs.laws.runs_are_what_the_exchange_met.Goals as goal

pub returns : goal.returns
returns c = λ k b e h l.
    met-walked k.opening _
    (walked-full
    (record {
      fills = c.fills_add_up.ensures.tested;
      sums = c.fills_add_up.ensures.shares;
      shares = c.orderly_books_stay.ensures.shares;
      orderly = c.orderly_books_stay.ensures.orderly;
      tested = c.a_match_keeps.ensures.tested;
      references = c.a_match_keeps.ensures.references;
      few = c.a_match_keeps.ensures.length;
      ends = c.matching_ends.ensures.ends;
      none = c.next_is_best.ensures.none;
      lower-tested = c.a_reduce_keeps.ensures.tested;
      lower-references = c.a_reduce_keeps.ensures.references;
      lowered = c.orderly_books_stay.ensures.lowered;
      lowered-shares = c.orderly_books_stay.ensures.lowered_shares;
      by-reference = c.orderly_books_stay.ensures.by_reference;
      rested = c.orderly_books_stay.ensures.rested;
    }) k b e h)
