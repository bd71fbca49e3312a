use Rattle.std.proofs.Common.{◌&&◌, eqb}
use Rattle.std.specs.Prelude.{bytes_eq}
use Rattle.price_time_book.specs.declared.resting.Resting.{Resting}
use Rattle.price_time_book.proofs.Changes.{below-changed, length-changed}
use Rattle.price_time_book.proofs.Stays.{all-changed, all_differ, both_sides, none_found, others_stay, token-rested}
use Rattle.price_time_book.proofs.keeping.changes_keep.Goals as goal

pub returns : goal.returns
returns c = record {
  length = length-changed;
  references = below-changed;
  tested = all-changed;
  others = others_stay;
  free = λ agent token. all_differ (λ (o : Resting). eqb o.agent agent && bytes_eq o.token.0 token.0);
  lacks = λ agent token. none_found (λ (o : Resting). eqb o.agent agent && bytes_eq o.token.0 token.0);
  rested = token-rested;
  sides = both_sides;
}
