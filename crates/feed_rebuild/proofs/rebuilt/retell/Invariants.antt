use Rattle.std.proofs.Common.{◌≡◌, Ok, drop, length}
use Rattle.feed_rebuild.specs.Fold.{fold, told_by}
use Rattle.feed_rebuild.proofs.rebuilt.retell.Given as goal

abbrev pub invariant-loop-message : goal.invariant-loop-message
invariant-loop-message l = record {
  told : told_by (Ok l.told) (drop l.message-index l.feed.list) ≡ fold l.stocks l.feed.list;
  count : length l.told.states ≡ l.stocks;
}
