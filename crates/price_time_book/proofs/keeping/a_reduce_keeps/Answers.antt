use Rattle.std.proofs.Common.{◌≡◌, true}
use Rattle.price_time_book.specs.declared.resting.Resting.{Resting}
use Rattle.price_time_book.proofs.Stays.{all-reduced, references-reduced, token-reduced, was-reduced_to}
use Rattle.price_time_book.proofs.keeping.a_reduce_keeps.Goals as goal

pub returns : goal.returns
returns c = record {
  references = references-reduced;
  tokens = token-reduced;
  tested = λ p. all-reduced (λ (x : Resting). p x ≡ true);
  was = was-reduced_to;
}
