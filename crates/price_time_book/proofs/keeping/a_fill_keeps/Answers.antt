use Rattle.std.proofs.Common.{◌≡◌, true}
use Rattle.price_time_book.specs.declared.resting.Resting.{Resting}
use Rattle.price_time_book.proofs.Stays.{all-fill, references-fill, token-fill, was-fill}
use Rattle.price_time_book.proofs.keeping.a_fill_keeps.Goals as goal

pub returns : goal.returns
returns c = record {
  references = references-fill;
  tokens = token-fill;
  tested = λ p. all-fill (λ (x : Resting). p x ≡ true);
  was = was-fill;
}
