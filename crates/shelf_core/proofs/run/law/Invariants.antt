use Rattle.std.proofs.Common.{◌≡◌, ◌≤◌, ◌+◌, length, take}
use Rattle.shelf_core.specs.After.{left_by}
use Rattle.shelf_core.specs.Orderly.{Orderly, IsSmall}
use Rattle.shelf_core.proofs.run.law.Given as goal

abbrev pub invariant-loop-event : goal.invariant-loop-event
invariant-loop-event l = record {
  left : l.s ≡ left_by (take l.event-index l.events);
  orderly : Orderly l.s;
  small : IsSmall l.s.plan;
  seats : length l.s.views ≤ l.event-index + 1;
}
