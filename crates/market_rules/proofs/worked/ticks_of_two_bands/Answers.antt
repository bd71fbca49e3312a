use Rattle.std.proofs.Common.{refl}
use Rattle.market_rules.specs.Nearest.{greatest_allowed, allowed_among}
use Rattle.market_rules.proofs.worked.ticks_of_two_bands.Goals as goal

pub returns : goal.returns
unfolding greatest_allowed allowed_among
returns c = record {
  below = refl;
  edge = refl;
  on_tick = refl;
  off_tick = refl;
  down = refl;
  down_to_zero = refl;
  down_below_zero = refl;
  up_to_the_edge = refl;
  up = refl;
  up_below_zero = refl;
  up_past_a_tick = refl;
}
