use Rattle.std.proofs.Common.{◌<◌, ◌≤◌, All, length}
use Rattle.price_time_book.specs.declared.resting.Resting.{Resting}
use Rattle.base_tests.proofs.price_time_book_tests.agrees_with_a_plain_list.Given as goal

abbrev pub invariant-loop-next : goal.invariant-loop-next
invariant-loop-next g l = record {
  before : All (λ (o : Resting). o.reference < l.next) l.book.list;
  few : length l.book.list ≤ l.next;
}
