use Rattle.std.proofs.Common.{length, arith}
use Rattle.price_time_book.proofs.Matching.{completed_goes, matched_ended, matched_enough}
use Rattle.price_time_book.proofs.laws.matching_ends.Goals as goal

pub returns : goal.returns
returns c = record {
  ends = λ side limit m. matched_enough (length m.book) side limit m (omega arith);
  goes_on = λ side limit m o e some. completed_goes side limit m o e some;
  stays = λ side limit m h. matched_ended (length m.book) side limit m h;
}
