use Rattle.std.proofs.Common.{◌≡◌, ◌+◌, [], length}
use Rattle.checkpoint_shelf.specs.Holds.{led}
use Rattle.checkpoint_shelf.specs.Seats.{NewFrom}
use Rattle.checkpoint_shelf.specs.Told.{told_of}
use Rattle.checkpoint_shelf.proofs.open.seated.Given as goal

abbrev pub invariant-loop-number : goal.invariant-loop-number
invariant-loop-number g l = record {
  table : l.first.table_id ≡ l.table.table_id;
  first : l.first.me ≡ (led l.table.key l.number, []);
  len : length l.all.items + 1 ≡ l.number;
  each : NewFrom (told_of l.table.table_id l.table.key) 1 l.all.items;
}
