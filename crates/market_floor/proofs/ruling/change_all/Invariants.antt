use Rattle.std.proofs.Common.{◌≡◌, ◌++◌, drop, length}
use Rattle.market_floor.specs.Ruled.{all_changed}
use Rattle.market_floor.proofs.ruling.change_all.Given as goal

abbrev pub invariant-loop-change : goal.invariant-loop-change
invariant-loop-change l = record {
  state : (all_changed (drop l.change-index l.changes) l.exchange).state ≡ (all_changed l.changes l.initial.exchange).state;
  feed : l.feed.list ++ (all_changed (drop l.change-index l.changes) l.exchange).feed ≡ l.initial.feed.list ++ (all_changed l.changes l.initial.exchange).feed;
  stocks : length l.exchange.stocks ≡ length l.initial.exchange.stocks;
}
