use Rattle.price_time_book.proofs.Bests.{next_is_best, next_shown_first, none_crosses}
use Rattle.price_time_book.proofs.Earliest.{next_is_earliest}
use Rattle.price_time_book.proofs.Stays.{next_crosses, next_held, next_passes}
use Rattle.price_time_book.proofs.laws.next_is_best.Goals as goal

pub returns : goal.returns
returns c = record {
  held = λ book side limit. next_held side limit book;
  tested = next_passes;
  crosses = λ book side limit. next_crosses side limit book;
  best = next_is_best;
  shown_first = next_shown_first;
  earliest = λ book side limit o h e. next_is_earliest book side limit o h.rising e;
  none = none_crosses;
}
