use Rattle.std.proofs.Common.{◌≡◌, ◌++◌, take}
use Rattle.event_queue.specs.Dues.{held}
use Rattle.event_queue.proofs.heaps.list.Given as goal

abbrev pub invariant-loop-due : goal.invariant-loop-due
invariant-loop-due l = l.messages.items ≡ l.initial.messages.items ++ held l.slots (take l.due-index l.dues)
