use Rattle.price_time_book.proofs.Stays.{crossing_fills, few_cross, few_fills, fills-cross, fills-tested, fills-was, fills-within, fills_grow, shares_add_up}
use Rattle.price_time_book.proofs.keeping.fills_add_up.Goals as goal

pub returns : goal.returns
returns c = record {
  crossing = crossing_fills;
  few = few_fills;
  few_cross = few_cross;
  grow = fills_grow;
  shares = shares_add_up;
  cross = fills-cross;
  within = fills-within;
  tested = fills-tested;
  was = fills-was;
}
