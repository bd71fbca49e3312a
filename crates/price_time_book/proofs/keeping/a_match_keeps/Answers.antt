use Rattle.std.proofs.Common.{◌≡◌, true}
use Rattle.price_time_book.specs.declared.resting.Resting.{Resting}
use Rattle.price_time_book.proofs.Stays.{all-matched, length_le-matched, references-matched, token-matched, was-matched}
use Rattle.price_time_book.proofs.keeping.a_match_keeps.Goals as goal

pub returns : goal.returns
returns c = record {
  references = references-matched;
  tokens = token-matched;
  tested = λ p. all-matched (λ (x : Resting). p x ≡ true);
  was = was-matched;
  length = length_le-matched;
}
