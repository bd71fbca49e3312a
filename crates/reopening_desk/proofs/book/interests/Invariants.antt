use Rattle.std.proofs.Common.{◌≡◌, map, take}
use Rattle.reopening_desk.specs.Reopened.{interest_of}
use Rattle.reopening_desk.proofs.book.interests.Given as goal

abbrev pub invariant-loop-order : goal.invariant-loop-order
invariant-loop-order l = l.list.items ≡ map interest_of (take l.order-index l.order-items)
