use Rattle.std.proofs.Common.{◌∙◌}
use Rattle.price_time_book.specs.Next.{crosses}
use Rattle.price_time_book.proofs.Takes.{count_open}
use Rattle.price_time_book.proofs.search.crossing_in.Goals as goal

pub returns : goal.returns
returns c = c.count_crossing.ensures ∙ count_open (crosses c.args.side c.args.limit) c.args.orders.now
