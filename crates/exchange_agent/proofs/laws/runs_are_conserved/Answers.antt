use Rattle.exchange_agent.proofs.Conserved.{conserved}
use Rattle.exchange_agent.proofs.laws.runs_are_conserved.Goals as goal

pub returns : goal.returns
returns c = λ rules cash hidden acts opening possible.
    conserved
    (record {
      fills = c.fills_add_up.ensures.tested;
      sums = c.fills_add_up.ensures.shares;
      shares = c.orderly_books_stay.ensures.shares;
      orderly = c.orderly_books_stay.ensures.orderly;
      tested = c.a_match_keeps.ensures.tested;
      references = c.a_match_keeps.ensures.references;
      few = c.a_match_keeps.ensures.length;
      ends = c.matching_ends.ensures.ends;
      none = c.next_is_best.ensures.none;
      lower-tested = c.a_reduce_keeps.ensures.tested;
      lower-references = c.a_reduce_keeps.ensures.references;
      lowered = c.orderly_books_stay.ensures.lowered;
      lowered-shares = c.orderly_books_stay.ensures.lowered_shares;
      by-reference = c.orderly_books_stay.ensures.by_reference;
      rested = c.orderly_books_stay.ensures.rested;
    }) rules cash hidden acts possible
