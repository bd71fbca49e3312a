use Rattle.exchange_agent.proofs.Shorts.{LengthLaws, short-change, short-market}
use Rattle.exchange_agent.proofs.laws.books_stay_short.Goals as goal
use Rattle.exchange_agent.proofs.laws.books_stay_short.Goals.{After-changes_keep}

laws : After-changes_keep → LengthLaws
laws c = record {
  crossing = c.fills_add_up.ensures.crossing;
  matched = c.a_match_keeps.ensures.length;
  changed = c.changes_keep.ensures.length;
}

pub returns-clause-books : goal.returns-clause-books
returns-clause-books c = λ s time agent n b h. (short-market (laws c) n s time agent b h).books

pub returns-clause-replies : goal.returns-clause-replies
returns-clause-replies c = λ s time agent n b h. (short-market (laws c) n s time agent b h).replies

pub returns-clause-changes : goal.returns-clause-changes
returns-clause-changes c = λ s time stock n change h. short-change n s time stock change h
