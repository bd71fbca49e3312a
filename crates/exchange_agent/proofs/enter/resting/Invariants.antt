use Rattle.std.proofs.Common.{◌≡◌, ◌≤◌, ◌*◌, take, map}
use Rattle.exchange_agent.specs.State.{resting_over}
use Rattle.exchange_agent.specs.View.{stock_of}
use Rattle.exchange_agent.proofs.enter.resting.Given as goal

abbrev pub invariant-loop-listing : goal.invariant-loop-listing
invariant-loop-listing l = record {
  so_far : l.count ≡ resting_over (map stock_of (take l.listing-index l.stocks));
  fits : l.count ≤ 131072 * l.listing-index;
}
