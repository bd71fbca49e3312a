use Rattle.price_time_book.proofs.Stays.{begins, continues}
use Rattle.price_time_book.proofs.keeping.matching_goes_on.Goals as goal

pub returns : goal.returns
returns c = record { continues = continues; begins = begins }
