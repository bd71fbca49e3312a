use Rattle.price_time_book.proofs.Stays.{book_adds_up, by_reference, fills-few, fills-give, open-lowered, orderly-lowered, orderly-matched, orderly-rested}
use Rattle.price_time_book.proofs.keeping.orderly_books_stay.Goals as goal

pub returns : goal.returns
returns c = record {
  orderly = orderly-matched;
  shares = book_adds_up;
  give = fills-give;
  few = fills-few;
  lowered = orderly-lowered;
  lowered_shares = open-lowered;
  rested = orderly-rested;
  by_reference = by_reference;
}
