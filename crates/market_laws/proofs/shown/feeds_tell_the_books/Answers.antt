use Rattle.std.proofs.Common.{ap}
use Rattle.price_time_book.specs.Matched.{Matching}
use Rattle.market_laws.proofs.ShownRuns.{feeds-tell}
use Rattle.market_laws.proofs.shown.feeds_tell_the_books.Goals as goal

pub returns : goal.returns
returns c = λ rules cash hidden acts opening possible.
    feeds-tell
    (record {
      begins = λ w side limit shares o next some. ap (λ (m : Matching). m.fills) (c.matching_goes_on.ensures.begins w side limit shares o next some);
      stays = c.matching_ends.ensures.stays;
      held = c.next_is_best.ensures.held;
    }) rules cash hidden acts possible
