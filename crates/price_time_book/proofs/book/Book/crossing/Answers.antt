use Rattle.std.proofs.Common.{sym}
use Rattle.price_time_book.proofs.book.Book.crossing.Goals as goal

pub returns-then-not-is_met : goal.returns-then-not-is_met
returns-then-not-is_met c = sym (c.is_met.ensures c.if-not-is_met.true)
