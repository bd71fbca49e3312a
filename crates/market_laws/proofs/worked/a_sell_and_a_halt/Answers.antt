use Rattle.std.proofs.Common.{refl, arith}
use Rattle.market_floor.specs.Reaction.{reaction}
use Rattle.market_floor.specs.Ruled.{ruled}
use Rattle.kernel_core.specs.Edited.{edited_one}
use Rattle.kernel_core.specs.Step.{event_of}
use Rattle.kernel_core.specs.Until.{advanced}
use Rattle.market_laws.proofs.worked.a_sell_and_a_halt.Goals as goal

pub returns : goal.returns
unfolding event_of advanced edited_one reaction ruled
returns c = record {
  met = record {
    possible = ((omega arith, omega arith), (omega arith, tt));
    exchange = refl;
    feed = refl;
    messages = omega arith;
  };
  messages = refl;
  feed = refl;
}
