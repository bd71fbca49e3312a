use Rattle.std.proofs.Common.{◌≡◌, ◌+◌, ◌++◌, take}
use Rattle.packed_entries.proofs.columns.put_feed.Given as goal

abbrev pub invariant-loop-message : goal.invariant-loop-message
invariant-loop-message l = record {
  list : l.column.list ≡ l.fn.column.list ++ take l.message-index l.feed;
  spare : l.column.spare + l.message-index ≡ l.fn.column.spare;
}
