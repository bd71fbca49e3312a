use Rattle.price_time_book.proofs.Shown.{best_is_best, best_none, none_best}
use Rattle.price_time_book.proofs.laws.best_is_shown.Goals as goal

pub returns : goal.returns
returns c = record {
  best = λ book side b e. best_is_best side book b e;
  none = λ book side e. best_none side book e;
  hidden = λ book side a. none_best side book a;
}
