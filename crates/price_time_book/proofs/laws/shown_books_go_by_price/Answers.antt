use Rattle.price_time_book.proofs.Priceds.{all_shown, best_is_priced, next_priced}
use Rattle.price_time_book.proofs.laws.shown_books_go_by_price.Goals as goal

pub returns : goal.returns
returns c = record {
  next = λ book side limit a. next_priced side limit book (all_shown book a);
  best = λ book side a. best_is_priced side book (all_shown book a);
}
