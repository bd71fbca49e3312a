use Rattle.std.proofs.Common.{◌≡◌, ◌+◌, length, map, true}
use Rattle.checkpoint_shelf.specs.Told.{told_of}
use Rattle.checkpoint_shelf.specs.Seats.{AreLater, gathered}
use Rattle.checkpoint_shelf.proofs.close.gather.Given as goal

abbrev pub invariant-loop-seat : goal.invariant-loop-seat
invariant-loop-seat g l = record {
  table : l.first.table_id ≡ l.table.table_id;
  leads : l.first.me.0.leads ≡ true;
  made : l.first.me.0.made ≡ l.initial.first.me.0.made;
  met : l.first.me.0.met + length l.others.items ≡ l.initial.first.me.0.met + length l.initial.others.items;
  seen : gathered l.first.me.0.seen (map (λ s. s.view) l.others.items) ≡ gathered l.initial.first.me.0.seen (map (λ s. s.view) l.initial.others.items);
  others : AreLater (told_of l.table.table_id l.table.key) l.others.items;
}

abbrev pub decreases-loop-seat : goal.decreases-loop-seat
decreases-loop-seat g l = length l.others.items
